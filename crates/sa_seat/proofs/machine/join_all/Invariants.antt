use Rattle.sa_seat.proofs.Closings.{Joining}
use Rattle.sa_seat.proofs.machine.join_all.Given as goal

abbrev pub invariant-loop-seat : goal.invariant-loop-seat
invariant-loop-seat g l = Joining l.fn.seats.items l.seats.items l.fn.keeper l.keeper l.turns 16

abbrev pub decreases-loop-seat : goal.decreases-loop-seat
decreases-loop-seat g l = goal.left-loop-seat g l
