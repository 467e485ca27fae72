use Rattle.std.proofs.lemmas.Result.{on_ok_weaker}
use Rattle.sa_cells.specs.Words.{through_words}
use Rattle.sa_cells.proofs.Joined.{three-joined}
use Rattle.sa_cells.proofs.words.push_through.Goals as goal

pub returns : goal.returns
unfolding through_words
returns c =
    on_ok_weaker c.push_piece.result (λ e. three-joined _ _ _ _ _ _ _ c.in_ok-push_space.ensures c.in_ok-push_a_thread.ensures e) c.push_piece.ensures
