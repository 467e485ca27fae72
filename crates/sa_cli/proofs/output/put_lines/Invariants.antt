use Rattle.std.proofs.Common.{◌≤◌, length}
use Rattle.sa_cli.proofs.TracePieces.{AreOut}
use Rattle.sa_cli.proofs.output.put_lines.Given as goal

abbrev pub invariant-loop-rest : goal.invariant-loop-rest
invariant-loop-rest g l = record {
  out : AreOut (g.K.Sink.taken l.initial.sink) (g.K.Sink.taken l.sink) l.initial.pieces l.items l.rest l.pieces;
  counted : g.K.Sink.faults l.initial.sink ≤ g.K.Sink.faults l.sink;
}

abbrev pub decreases-loop-rest : goal.decreases-loop-rest
decreases-loop-rest g l = length l.rest
