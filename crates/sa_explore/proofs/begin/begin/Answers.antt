use Rattle.std.proofs.Common.{ap, ◌∙◌}
use Rattle.sa_core_model.specs.Run.{opening}
use Rattle.sa_explore.proofs.begin.begin.Goals as goal

pub do_lines-requires-clause-opens : goal.do_lines-requires-clause-opens
do_lines-requires-clause-opens g c = λ lt lives. c.in_ok-core.ensures.opening ∙ ap (opening g.U.UserLevel.calls) c.in_ok-copy.ensures
