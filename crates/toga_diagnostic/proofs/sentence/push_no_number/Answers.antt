use Rattle.std.proofs.lemmas.Result.{on_ok_weaker}
use Rattle.toga_diagnostic.proofs.Appended.{four}
use Rattle.toga_diagnostic.specs.Sentence.{no_number_text}
use Rattle.toga_diagnostic.proofs.sentence.push_no_number.Goals as goal

pub returns : goal.returns
unfolding no_number_text
returns c =
    on_ok_weaker c.push_numbers.result (λ e. four c.args.out.now.items _ _ _ _ _ _ _ _ c.in_ok-push_kind.ensures c.in_ok-push_counted.ensures c.in_ok-push_around.ensures e)
    c.push_numbers.ensures
