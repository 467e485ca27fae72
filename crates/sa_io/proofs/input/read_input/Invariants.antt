use Rattle.std.proofs.Common.{◌≡◌, ◌+◌, ◌-◌, ◌≤◌, length}
use Rattle.std.specs.Io.KnownBytes.{Consumes}
use Rattle.sa_io.specs.declared.pieces.TheConstants.{PIECE}
use Rattle.sa_io.proofs.input.read_input.Given as goal

abbrev pub invariant-loop-piece : goal.invariant-loop-piece
invariant-loop-piece g l = record {
  taken : Consumes (g.S.Source.left l.initial.source) (g.S.Source.left l.source) l.input.items;
  limit : length l.input.items ≤ l.limit + 1;
  counted : g.S.Source.faults l.initial.source ≤ g.S.Source.faults l.source;
  room : length l.piece ≡ PIECE;
}

abbrev pub decreases-loop-piece : goal.decreases-loop-piece
decreases-loop-piece g l = l.limit + 1 - length l.input.items
