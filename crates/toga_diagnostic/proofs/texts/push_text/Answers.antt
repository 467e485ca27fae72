use Rattle.std.proofs.lemmas.Result.{on_ok_weaker}
use Rattle.toga_diagnostic.proofs.Appended.{four}
use Rattle.toga_diagnostic.specs.Text.{diagnostic_text}
use Rattle.toga_diagnostic.proofs.texts.push_text.Goals as goal

pub returns : goal.returns
unfolding diagnostic_text
returns c =
    on_ok_weaker c.push_shown.result (λ e. four c.args.out.now.items _ _ _ _ _ _ _ _ c.in_ok-push_place.ensures c.in_ok-push_said.ensures c.in_ok-extend_from_slice.ensures.items e)
    c.push_shown.ensures
