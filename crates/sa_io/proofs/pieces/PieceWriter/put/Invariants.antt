use Rattle.std.proofs.Common.{◌≡◌, ℕ, ◌+◌, ◌≤◌, List, ◌++◌, length}
use Rattle.std.specs.Io.KnownBytes.{Appends}
use Rattle.sa_io.proofs.pieces.PieceWriter.put.Given as goal

abbrev pub invariant-loop-rest : goal.invariant-loop-rest
invariant-loop-rest g l = record {
  sent : List ℕ;
  taken : Appends (g.K.Sink.taken l.initial.sink) (g.K.Sink.taken l.sink) sent;
  whole : l.initial.self-inside.waiting.items ++ l.text ≡ sent ++ (l.self-inside.waiting.items ++ l.rest);
  counted : g.K.Sink.faults l.initial.sink ≤ g.K.Sink.faults l.sink;
}

abbrev pub decreases-loop-rest : goal.decreases-loop-rest
decreases-loop-rest g l = length l.self-inside.waiting.items + length l.rest
