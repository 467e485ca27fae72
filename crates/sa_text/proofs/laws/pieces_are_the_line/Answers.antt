use Rattle.std.proofs.Common.{subst, sym}
use Rattle.sa_text.specs.Pieces.{IsPiecesOf}
use Rattle.sa_text.proofs.PieceLemmas.{pieces_only, pieces_of-are_pieces}
use Rattle.sa_text.proofs.laws.pieces_are_the_line.Goals as goal

pub returns : goal.returns
returns c = λ bytes pieces. (pieces_only pieces bytes, λ e. subst (IsPiecesOf bytes) (sym e) (pieces_of-are_pieces bytes))
