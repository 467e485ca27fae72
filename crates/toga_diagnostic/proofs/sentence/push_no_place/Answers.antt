use Rattle.std.proofs.lemmas.Result.{on_ok_weaker}
use Rattle.toga_diagnostic.proofs.Appended.{three}
use Rattle.toga_diagnostic.specs.Sentence.{no_place_text}
use Rattle.toga_diagnostic.proofs.sentence.push_no_place.Goals as goal

pub returns : goal.returns
unfolding no_place_text
returns c =
    on_ok_weaker c.push_last_place.result (λ e. three c.args.out.now.items _ _ _ _ _ _ c.in_ok-push_counted.ensures c.in_ok-push_around.ensures e)
    c.push_last_place.ensures
