use Rattle.std.proofs.Common.{ℕ, ◌++◌, ap, ◌∙◌}
use Rattle.std.specs.Prelude.{codes}
use Rattle.std.proofs.lemmas.Result.{on_ok_weaker}
use Rattle.sa_cells.specs.Pieces.{numbered}
use Rattle.sa_cells.specs.Words.{ins_words}
use Rattle.sa_cells.proofs.Joined.{three-joined}
use Rattle.sa_cells.proofs.words.push_ins.Goals as goal

pub returns : goal.returns
unfolding ins_words
returns c =
    on_ok_weaker c.push_ran.result (λ e. three-joined _ _ _ _ _ _ _ c.in_ok-push_ready.ensures (c.in_ok-push_numbered.ensures
    ∙ ap (λ (n : ℕ). c.push_ready.new.out.items ++ numbered (codes "its instruction ") n) c.from.ensures) e) c.push_ran.ensures
