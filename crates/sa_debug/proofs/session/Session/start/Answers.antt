use Rattle.std.proofs.Common.{subst}
use Rattle.sa_spaces.specs.Workload.{IsWorkload}
use Rattle.sa_debug.proofs.Keeping.{kept-start}
use Rattle.sa_debug.proofs.session.Session.start.Goals as goal

pub invariant_of-result : goal.invariant_of-result
invariant_of-result g c =
    kept-start g.U.UserLevel.calls c.args.core c.args.replay c.new.result (subst IsWorkload c.workload.ensures c.ranges-2.ensures)
    c.requires.opening c.requires.replay c.requires.playable c.requires.few c.new.ensures.workload c.new.ensures.state c.new.ensures.taken
