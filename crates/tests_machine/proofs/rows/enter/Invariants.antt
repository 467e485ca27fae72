use Rattle.std.proofs.Common.{◌≡◌}
use Rattle.tests_machine.proofs.rows.enter.Given as goal

-- it stays the seat of its processor
abbrev pub invariant-loop-time : goal.invariant-loop-time
invariant-loop-time g l = l.seat.poller.proc ≡ l.fn.seat.poller.proc
