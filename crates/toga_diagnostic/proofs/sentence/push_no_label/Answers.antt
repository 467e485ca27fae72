use Rattle.std.proofs.lemmas.Result.{on_ok_weaker}
use Rattle.toga_diagnostic.proofs.Appended.{three}
use Rattle.toga_diagnostic.specs.Sentence.{no_label_text}
use Rattle.toga_diagnostic.proofs.sentence.push_no_label.Goals as goal

pub returns : goal.returns
unfolding no_label_text
returns c =
    on_ok_weaker c.push_labels.result (λ e. three c.args.out.now.items _ _ _ _ _ _ c.in_ok-push_around.ensures c.in_ok-push_around-2.ensures e)
    c.push_labels.ensures
