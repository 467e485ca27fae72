use Rattle.std.proofs.Common.{◌≡◌, ◌+◌, ◌-◌, ◌≤◌, length, drop}
use Rattle.std.specs.Io.KnownBytes.{Consumes}
use Rattle.sa_io.specs.declared.pieces.TheConstants.{PIECE}
use Rattle.sa_front.specs.Front.{IsOpen}
use Rattle.sa_front.proofs.front.read_front.Given as goal

-- what came so far is the text, and no line of it is `close`
abbrev pub invariant-loop-piece : goal.invariant-loop-piece
invariant-loop-piece g l = record {
  taken : Consumes (g.S.Source.left l.initial.source) (g.S.Source.left l.source) l.text.items;
  few : length l.text.items ≤ l.limit + 1;
  within : l.line ≤ length l.text.items;
  no_close : IsOpen l.text.items (drop l.line l.text.items);
  counted : g.S.Source.faults l.initial.source ≤ g.S.Source.faults l.source;
  room : length l.piece ≡ PIECE;
}

abbrev pub decreases-loop-piece : goal.decreases-loop-piece
decreases-loop-piece g l = l.limit + 1 - length l.text.items
