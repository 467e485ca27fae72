use Rattle.std.proofs.lemmas.Result.{on_ok_weaker}
use Rattle.toga_diagnostic.proofs.Appended.{two}
use Rattle.toga_diagnostic.specs.Sentence.{event_again_text}
use Rattle.toga_diagnostic.proofs.sentence.push_event_again.Goals as goal

pub returns : goal.returns
unfolding event_again_text
returns c =
    on_ok_weaker c.push_counted-2.result (λ e. two c.args.out.now.items _ _ _ _ c.in_ok-push_counted.ensures e)
    c.push_counted-2.ensures
