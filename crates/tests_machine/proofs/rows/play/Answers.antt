use Rattle.std.proofs.Common.{sym, ap, ◌∙◌}
use Rattle.sa_core_model.specs.Machine.{Machine}
use Rattle.sa_core_model.specs.Run.{opening}
use Rattle.tests_machine.proofs.rows.play.Goals as goal

pub play_named-requires-clause-core : goal.play_named-requires-clause-core
play_named-requires-clause-core g c κs within =
    let at = c.in_ok-core.ensures.opening in
    at ∙ ap (λ (m : Machine g.row.U.Denot g.row.U-Ctx.Denot). opening g.U.UserLevel.calls m.workload) (sym at)
