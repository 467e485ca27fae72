use Rattle.std.proofs.lemmas.Result.{on_ok_weaker}
use Rattle.toga_diagnostic.proofs.Appended.{two}
use Rattle.toga_diagnostic.specs.Sentence.{unknown_text}
use Rattle.toga_diagnostic.proofs.sentence.push_unknown.Goals as goal

pub returns : goal.returns
unfolding unknown_text
returns c =
    on_ok_weaker c.push_stage.result (λ e. two c.args.out.now.items _ _ _ _ c.in_ok-push_around.ensures e)
    c.push_stage.ensures
