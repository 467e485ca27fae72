use Rattle.std.proofs.lemmas.Result.{on_ok_weaker}
use Rattle.sa_lemmas.proofs.Texts.{appended_twice}
use Rattle.sa_cells.proofs.space.push_held.Goals as goal

pub returns : goal.returns
returns c =
    on_ok_weaker c.push_and_thread.result (λ e. appended_twice _ _ _ _ _ c.in_ok-push_numbered.ensures e) c.push_and_thread.ensures
