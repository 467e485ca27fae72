use Rattle.std.proofs.Common.{ap, ◌∙◌}
use Rattle.std.proofs.lemmas.Result.{IfOk-weaker}
use Rattle.clap.specs.Simple.{app_of_fields}
use Rattle.toga_words.specs.Local.{IsLocalApp}
use Rattle.toga_words.proofs.Builders.{with_arg}
use Rattle.toga_words.proofs.commands.picture.Goals as goal

pub returns : goal.returns
returns c =
    let bare : IsLocalApp _ c.about.result = record {
      app = ap app_of_fields c.about.ensures ∙ c.new.ensures.app;
      local = ap (λ f. f.has_globals) c.about.ensures ∙ c.new.ensures.local;
    } in
    let with_1 = with_arg _ _ _ _ _ bare c.trace.ensures.rule c.trace.ensures.local c.in_ok-arg.ensures in
    let with_2 = with_arg _ _ _ _ _ with_1 c.option.ensures.rule c.option.ensures.local c.in_ok-arg-2.ensures in
    let with_3 = with_arg _ _ _ _ _ with_2 c.option-2.ensures.rule c.option-2.ensures.local c.in_ok-arg-3.ensures in
    let with_4 = with_arg _ _ _ _ _ with_3 c.option-3.ensures.rule c.option-3.ensures.local c.in_ok-arg-4.ensures in
    IfOk-weaker c.arg-5.result _ _ (λ r h. with_arg _ _ _ r _ with_4 c.output.ensures.rule c.output.ensures.local h) c.arg-5.ensures
