use Rattle.sa_core.specs.View.{machine}
use Rattle.sa_seat.proofs.Follows.{Following}
use Rattle.sa_seat.proofs.follow.follow.Given as goal

abbrev pub invariant-loop-p : goal.invariant-loop-p
invariant-loop-p g l = Following (machine l.core).kernel l.p l.fn.keeper l.keeper l.fn.lines l.lines
