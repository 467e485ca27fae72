use Rattle.std.proofs.lemmas.Result.{on_ok_weaker}
use Rattle.toga_diagnostic.proofs.Appended.{two}
use Rattle.toga_diagnostic.specs.Sentence.{limited_text}
use Rattle.toga_diagnostic.proofs.sentence.push_limited.Goals as goal

pub returns : goal.returns
unfolding limited_text
returns c =
    on_ok_weaker c.push_limit.result (λ e. two c.args.out.now.items _ _ _ _ c.in_ok-push_around.ensures e)
    c.push_limit.ensures
