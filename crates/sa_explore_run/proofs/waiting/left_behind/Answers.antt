use Rattle.sa_explore_run.proofs.Left.{are-left}
use Rattle.sa_explore_run.proofs.waiting.left_behind.Goals as goal

pub returns : goal.returns
returns g c =
    are-left g.U.UserLevel.calls c.args.workload.now c.args.turns.now c.in_ok-waits.waits.items c.requires.complete c.requires.stuck
    c.in_ok-waits.ensures
