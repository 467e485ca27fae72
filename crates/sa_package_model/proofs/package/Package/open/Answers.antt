use Rattle.std.proofs.Common.{ap}
use Rattle.sa_fast.specs.declared.shared.Shared.{Shared}
use Rattle.sa_package_model.specs.declared.package.Package.{Package}
use Rattle.sa_package_model.proofs.package.Package.open.Goals as goal

pub returns : goal.returns
returns c =
    let a = c.args in
    ap (λ (x : Shared). let made : Package = record { def = a.def; processors = a.processors; fetch = a.fetch; shared = x } in made) c.in_ok-shared.ensures
