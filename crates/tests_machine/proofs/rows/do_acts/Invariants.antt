use Rattle.sa_seat.specs.Seat.{AreSeats}
use Rattle.tests_machine.proofs.rows.do_acts.Given as goal

-- the seats stay in order
abbrev pub invariant-loop-each : goal.invariant-loop-each
invariant-loop-each g l = AreSeats g.K.Named.workload.processors l.seats
