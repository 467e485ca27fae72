use Rattle.std.proofs.lemmas.Result.{on_ok_weaker}
use Rattle.toga_diagnostic.proofs.Appended.{four}
use Rattle.toga_diagnostic.specs.Sentence.{no_name_text}
use Rattle.toga_diagnostic.proofs.sentence.push_no_name.Goals as goal

pub returns : goal.returns
unfolding no_name_text
returns c =
    on_ok_weaker c.push_names.result (λ e. four c.args.out.now.items _ _ _ _ _ _ _ _ c.in_ok-push_kind.ensures c.in_ok-push_around.ensures c.in_ok-push_around-2.ensures e)
    c.push_names.ensures
