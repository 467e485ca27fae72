use Rattle.std.proofs.Common.{ap, sym, ◌∙◌}
use Rattle.std.specs.Prelude.{string_bytes}
use Rattle.sa_command.specs.Commands.{with_option}
use Rattle.sa_command.proofs.Pairs.{no_pair, pair_first}
use Rattle.sa_command.proofs.options.+read_settings.Goals as goal

pub returns-in-len1 : goal.returns-in-len1
returns-in-len1 t c = no_pair string_bytes c.args.taken c.args.settings c.args.words.now c.in-len1.len_at_least c.in-len1.len_below

pub returns-in_ok-settings-in-len2-up : goal.returns-in_ok-settings-in-len2-up
returns-in_ok-settings-in-len2-up t c =
    c.read_settings.ensures
    ∙ pair_first string_bytes c.args.taken c.args.settings c.in_ok-settings-in-len2-up.settings c.args.words.now c.name-item.result c.value-item.result
    c.in-len2-up.len_at_least c.name-item.is c.value-item.is
    (ap (λ n. with_option c.args.taken c.args.settings n (string_bytes c.value-item.result)) (sym c.deref.ensures)
    ∙ ap (λ v. with_option c.args.taken c.args.settings c.deref.result.now v) (sym c.as_bytes.ensures.value)
    ∙ sym c.with_option.ensures ∙ c.in_ok-settings-in-len2-up.was)
