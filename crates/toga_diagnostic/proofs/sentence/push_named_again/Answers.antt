use Rattle.std.proofs.lemmas.Result.{on_ok_weaker}
use Rattle.toga_diagnostic.proofs.Appended.{two}
use Rattle.toga_diagnostic.specs.Sentence.{named_again_text}
use Rattle.toga_diagnostic.proofs.sentence.push_named_again.Goals as goal

pub returns : goal.returns
unfolding named_again_text
returns c =
    on_ok_weaker c.push_kind.result (λ e. two c.args.out.now.items _ _ _ _ c.in_ok-push_again.ensures e)
    c.push_kind.ensures
