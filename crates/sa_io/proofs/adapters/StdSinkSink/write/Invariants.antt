-- The writer got what is gone from the front of the piece, and there was no fault.
use Rattle.std.proofs.Common.{◌≡◌}
use Rattle.sa_io.proofs.Written.{HasWritten}
use Rattle.sa_io.proofs.adapters.StdSinkSink.write.Given as goal

abbrev pub invariant-loop : goal.invariant-loop
invariant-loop g l =
    HasWritten (g.W.Write.contents l.initial.self-inside.writer) (g.W.Write.contents l.self-inside.writer) l.initial.rest l.rest
    × (l.self-inside.faults ≡ l.initial.self-inside.faults)
