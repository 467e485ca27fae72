use Rattle.std.proofs.Common.{◌≡◌, ◌++◌, take}
use Rattle.toga_verdict.specs.Words.{pieces_text}
use Rattle.toga_verdict.proofs.pieces.push_pieces.Given as goal

abbrev pub invariant-loop-piece : goal.invariant-loop-piece
invariant-loop-piece l = l.out.items ≡ l.initial.out.items ++ pieces_text l.names l.programs (take l.piece-index l.pieces)
