use Rattle.std.proofs.Common.{◌≡◌, ◌≤◌, ◌++◌, length, drop, take}
use Rattle.sa_front.specs.Front.{IsOpen}
use Rattle.sa_front.proofs.front.take_piece.Given as goal

-- the bytes so far are appended, and no line among them is `close`
abbrev pub invariant-loop-i : goal.invariant-loop-i
invariant-loop-i l = record {
  within : l.line ≤ length l.text.items;
  taken : l.text.items ≡ l.initial.text.items ++ take l.i l.piece;
  no_close : IsOpen l.text.items (drop l.line l.text.items);
}
