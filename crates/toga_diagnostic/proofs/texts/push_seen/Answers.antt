use Rattle.std.proofs.lemmas.Result.{on_ok_weaker}
use Rattle.toga_diagnostic.proofs.Appended.{two}
use Rattle.toga_diagnostic.specs.Text.{seen_text}
use Rattle.toga_diagnostic.proofs.texts.push_seen.Goals as goal

pub returns : goal.returns
unfolding seen_text
returns c =
    on_ok_weaker c.push_carets.result (λ e. two c.args.out.now.items _ _ _ _ c.in_ok-push_line.ensures e)
    c.push_carets.ensures
