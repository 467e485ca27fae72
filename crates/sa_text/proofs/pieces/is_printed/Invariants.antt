use Rattle.std.proofs.Common.{◌≡◌, take}
use Rattle.sa_text.specs.Pieces.{is_printed}
use Rattle.sa_text.proofs.pieces.is_printed.Given as goal

abbrev pub invariant-loop-byte : goal.invariant-loop-byte
invariant-loop-byte l = l.printed ≡ is_printed (take l.byte-index l.bytes)
