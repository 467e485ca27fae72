use Rattle.std.proofs.Common.{rules, ◌∙◌, ap}
use Rattle.std.specs.Prelude.{filter}
use Rattle.std.proofs.lemmas.Fn.{filter_same}
use Rattle.sa_laws.specs.Record.{is_other_note}
use Rattle.sa_check_lives.proofs.lists.drop_note.Goals as goal

pub returns : goal.returns
returns c =
    filter_same _ (is_other_note c.args.note) _ (λ x b f' k. search rules) _ _ c.retain.ensures.filtered ∙ ap (filter (is_other_note c.args.note)) c.row.view_is
