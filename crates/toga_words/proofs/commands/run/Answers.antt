use Rattle.std.proofs.Common.{ap, ◌∙◌}
use Rattle.std.proofs.lemmas.Result.{IfOk-weaker}
use Rattle.clap.specs.Simple.{app_of_fields}
use Rattle.toga_words.specs.Local.{IsLocalApp}
use Rattle.toga_words.proofs.Builders.{with_arg}
use Rattle.toga_words.proofs.commands.run.Goals as goal

pub returns : goal.returns
returns c =
    let bare : IsLocalApp _ c.about.result = record {
      app = ap app_of_fields c.about.ensures ∙ c.new.ensures.app;
      local = ap (λ f. f.has_globals) c.about.ensures ∙ c.new.ensures.local;
    } in
    let with_1 = with_arg _ _ _ _ _ bare c.source.ensures.rule c.source.ensures.local c.in_ok-arg.ensures in
    let with_2 = with_arg _ _ _ _ _ with_1 c.schedule.ensures.rule c.schedule.ensures.local c.in_ok-arg-2.ensures in
    let with_3 = with_arg _ _ _ _ _ with_2 c.package.ensures.rule c.package.ensures.local c.in_ok-arg-3.ensures in
    let with_4 = with_arg _ _ _ _ _ with_3 c.budget.ensures.rule c.budget.ensures.local c.in_ok-arg-4.ensures in
    let with_5 = with_arg _ _ _ _ _ with_4 c.option.ensures.rule c.option.ensures.local c.in_ok-arg-5.ensures in
    let with_6 = with_arg _ _ _ _ _ with_5 c.option-2.ensures.rule c.option-2.ensures.local c.in_ok-arg-6.ensures in
    IfOk-weaker c.arg-7.result _ _ (λ r h. with_arg _ _ _ r _ with_6 c.option-3.ensures.rule c.option-3.ensures.local h) c.arg-7.ensures
