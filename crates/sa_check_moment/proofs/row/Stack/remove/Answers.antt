use Rattle.std.proofs.Common.{rules, sym, ◌∙◌, ap}
use Rattle.std.specs.Prelude.{filter}
use Rattle.std.proofs.lemmas.Bool.{cond-false}
use Rattle.std.proofs.lemmas.Fn.{filter_same}
use Rattle.sa_check_moment.specs.Ranked.{newest, is_newest, is_other}
use Rattle.sa_check_moment.proofs.row.Stack.remove.Goals as goal

pub returns-else-is_newest : goal.returns-else-is_newest
returns-else-is_newest c =
    filter_same _ (is_other c.args.t) _ (λ x b f' k. search rules) _ _ c.retain.ensures.filtered ∙ ap (filter (is_other c.args.t)) c.self.view_is
    ∙ sym (cond-false (is_newest c.args.t (newest c.args.self.now)) _ _ (sym c.is_newest.ensures ∙ c.if-is_newest.false))
