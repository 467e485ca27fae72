use Rattle.std.proofs.Common.{◌+◌, ◌++◌, ◌∷◌, ℕ, List, Option, Some, drop, get_or, sym, ◌∙◌, ap}
use Rattle.std.proofs.lemmas.List.{at_drop_more}
use Rattle.sa_base.specs.declared.record.Record.TheVariants.{Aim}
use Rattle.sa_assign.specs.Reaim.{line_at, line_records, records_of}
use Rattle.sa_check_shapes.specs.declared.due.Aimed.{Aimed}
use Rattle.sa_check_shapes.specs.Due.{changes_of}
use Rattle.sa_check.proofs.ChangeLemmas.{and-line}
use Rattle.sa_check.proofs.opening.add_raised.Goals as goal

pub loop-aimed-preserved : goal.loop-aimed-preserved
loop-aimed-preserved c =
    let n = c.args.number in
    let i = c.loop-aimed.aimed-index in
    let due = c.args.due.now in
    let any : Aimed = record { proc = record { 0 = 0 }; space = record { 0 = 0 } } in
    let one = get_or due i any in
    let before = c.loop-aimed.records.items in
    let lines = c.loop-aimed.lines.items in
    let aim = Aim one.proc (Some one.space) in
    let told = line_records one.proc.0 (line_at lines one.proc.0) in
    let rest = changes_of (drop (i + 1) due) in
    and-line before c.push.new.self.items c.add.new.records.items told (records_of n c.raise.new.lines.items rest) aim c.raise.result
    c.in_ok-push.ensures.items c.in_ok-add.ensures c.raise.ensures.told
    ∙ ap (λ (ls : List (Option ℕ)). before ++ aim ∷ (told ++ records_of n ls rest)) c.raise.ensures.raised
    ∙ sym (at_drop_more (λ xs. before ++ records_of n lines (changes_of xs)) due i any c.loop-aimed-test.true)
    ∙ c.loop-aimed.invariant
