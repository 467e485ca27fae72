use Rattle.std.proofs.Common.{ap, ◌∙◌}
use Rattle.sa_core_model.specs.Run.{opening}
use Rattle.sa_explore.proofs.runs.start_with_room.Goals as goal

pub returns-in-Ok-clause-opens : goal.returns-in-Ok-clause-opens
returns-in-Ok-clause-opens g c = c.reserve.ensures.machine ∙ c.in_ok-core.ensures.opening ∙ ap (opening g.U.UserLevel.calls) c.in_ok-copy.ensures
