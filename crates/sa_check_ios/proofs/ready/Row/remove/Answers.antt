use Rattle.std.proofs.Common.{rules, ◌∙◌, ap}
use Rattle.std.specs.Prelude.{filter}
use Rattle.std.proofs.lemmas.Fn.{filter_same}
use Rattle.sa_laws.specs.Record.{is_other_thread}
use Rattle.sa_check_ios.proofs.ready.Row.remove.Goals as goal

pub returns : goal.returns
returns c =
    filter_same _ (is_other_thread c.args.t) _ (λ x b f' k. search rules) _ _ c.retain.ensures.filtered ∙ ap (filter (is_other_thread c.args.t)) c.self.view_is
