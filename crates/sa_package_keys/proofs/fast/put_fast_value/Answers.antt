use Rattle.std.proofs.Common.{sym, subst}
use Rattle.sa_package_model.specs.declared.package.Package.{Package}
use Rattle.sa_package_keys.specs.Packages.{HasUnmade}
use Rattle.sa_package_keys.proofs.Unmade.{has-unmade}
use Rattle.sa_package_keys.proofs.fast.put_fast_value.Goals as goal

pub put_shared-requires-clause-unmade : goal.put_shared-requires-clause-unmade
put_shared-requires-clause-unmade c =
    let stood = c.requires in
    subst (λ (u : Package). HasUnmade u.shared) (sym c.package-package.ensures)
    (has-unmade stood.setting stood.event c.args.threads.now stood.others stood.value)
