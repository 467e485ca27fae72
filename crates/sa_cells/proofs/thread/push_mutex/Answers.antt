use Rattle.std.proofs.Common.{ℕ, ◌++◌, Option, ap, ◌∙◌}
use Rattle.std.specs.Prelude.{codes}
use Rattle.std.proofs.lemmas.Result.{on_ok_weaker}
use Rattle.sa_lemmas.proofs.Texts.{appended_twice}
use Rattle.sa_cells.specs.Pieces.{numbered}
use Rattle.sa_cells.specs.Thread.{held_by}
use Rattle.sa_cells.proofs.thread.push_mutex.Goals as goal

pub returns : goal.returns
returns c =
    on_ok_weaker c.push_held_by.result (λ e. appended_twice _ _ _ _ _
    (c.in_ok-push_numbered.ensures ∙ ap (λ (n : ℕ). c.args.out.now.items ++ numbered (codes ", for mutex ") n) c.from.ensures)
    (e ∙ ap (λ (h : Option ℕ). c.push_numbered.new.out.items ++ held_by h) c.holder_of.ensures)) c.push_held_by.ensures
