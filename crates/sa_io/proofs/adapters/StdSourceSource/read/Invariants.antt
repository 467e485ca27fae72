-- A read that was interrupted took nothing, and is no fault.
use Rattle.std.proofs.Common.{◌≡◌}
use Rattle.std.specs.Io.KnownBytes.{Keeps}
use Rattle.sa_io.proofs.adapters.StdSourceSource.read.Given as goal

abbrev pub invariant-loop : goal.invariant-loop
invariant-loop g l =
    Keeps (g.R.Read.remaining l.initial.self-inside.reader) (g.R.Read.remaining l.self-inside.reader)
    × (l.self-inside.faults ≡ l.initial.self-inside.faults)
