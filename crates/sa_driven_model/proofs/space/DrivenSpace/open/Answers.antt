use Rattle.std.proofs.Common.{Bool, List, None, ap, ◌∙◌}
use Rattle.sa_fast.specs.declared.shared.Shared.{Shared}
use Rattle.sa_driven_model.specs.declared.space.DrivenSpace.{DrivenSpace}
use Rattle.sa_driven_model.proofs.space.DrivenSpace.open.Goals as goal

pub returns : goal.returns
returns c =
    let a = c.args in
    let made : Shared → List Bool → DrivenSpace = λ x handed. record {
      base = record { def = a.def; processors = a.processors; fetch = a.fetch; shared = x };
      handed = handed;
      reply = None;
    } in
    ap (λ x. made x c.new.result) c.in_ok-shared.ensures ∙ ap (made _) c.new.ensures
