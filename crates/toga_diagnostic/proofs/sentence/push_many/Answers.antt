use Rattle.std.proofs.lemmas.Result.{on_ok_weaker}
use Rattle.toga_diagnostic.proofs.Appended.{four, ok_items}
use Rattle.toga_diagnostic.specs.Sentence.{many_text}
use Rattle.toga_diagnostic.proofs.sentence.push_many.Goals as goal

pub returns : goal.returns
unfolding many_text
returns c =
    on_ok_weaker c.extend_from_slice.result
    (λ e. four c.args.out.now.items _ _ _ _ _ _ _ _ c.in_ok-push_around.ensures c.in_ok-push_cut.ensures c.in_ok-push_operands.ensures e)
    (ok_items c.extend_from_slice.result _ _ _ c.extend_from_slice.ensures.items)
