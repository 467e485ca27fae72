use Rattle.std.proofs.Common.{[], ◌∷◌, List, Result, Ok, refl, sym, ◌∙◌, ap, subst}
use Rattle.sa_base.specs.declared.record.Record.{Record}
use Rattle.sa_base.specs.declared.refusal.Unread.{Unread}
use Rattle.sa_trace.specs.declared.line.Said.{Said}
use Rattle.sa_trace.specs.declared.line.Said.TheVariants.{Next}
use Rattle.sa_trace.specs.Reader.{left, in_front, with_said}
use Rattle.sa_ranks.specs.Packages.{rules_named}
use Rattle.sa_check_moment.specs.Seen.{Seen, seen, event}
use Rattle.sa_check.specs.declared.judge.Judged.{Judged}
use Rattle.sa_check.specs.declared.judge.Judged.TheVariants as judged_as
use Rattle.sa_check.specs.declared.verdict.Verdict.{Verdict}
use Rattle.sa_check.specs.declared.verdict.Verdict.TheVariants.{Legal, Broken}
use Rattle.sa_check.specs.Judged.{Judges}
use Rattle.sa_check.specs.Quiet.{WasSettled}
use Rattle.sa_check.specs.Sides.{line_told}
use Rattle.sa_check.specs.Verdict.{IsChecked}
use Rattle.sa_check.proofs.QuietLemmas.{settled-next}
use Rattle.sa_check.proofs.ReadLemmas.{Comes, right-event, broken-event, bad-event, bad-ahead, break-found, none-found, judged}
use Rattle.sa_check.proofs.trace.judge_events.Goals as goal

pub returns-in-Err : goal.returns-in-Err
returns-in-Err c =
    let w = c.args.workload.now in
    let r = (seen c.loop-said.now.moment).readings in
    let item = c.in-Next.item in
    let before = left c.loop-said.reader in
    let whole = in_front (c.args.first ∷ []) (left c.args.reader.now) in
    bad-ahead c.args.rules w r item before (left c.gather.new.reader) whole c.gather.new.records.items c.in-Err.bad c.in-Err.ensures.gathers
    (λ a comes. c.loop-said.invariant.rest a (subst (λ (s : Said). Comes c.args.rules w r (with_said s before) a) (sym c.in-Next.is) comes))

pub loop-said-preserved : goal.loop-said-preserved
loop-said-preserved c =
    let w = c.args.workload.now in
    let m = seen c.loop-said.now.moment in
    let next = seen c.in-Ok-Right.after.moment in
    let item = c.in-Next.item in
    let records = c.gather.new.records.items in
    let e = event item.event item.proc records in
    let last = line_told c.last_told.result in
    let before = left c.loop-said.reader in
    let after = left c.gather.new.reader in
    let here : Judges m (event item.event item.proc c.deref.result.now) last (judged_as.Right c.in-Ok-Right.after) =
    subst (λ (j : Judged). Judges m (event item.event item.proc c.deref.result.now) last j) c.in-Ok-Right.field-0-is c.in-Ok-Right.ensures in
    let stands = subst (λ (rs : List Record). Judges m (event item.event item.proc rs) last (judged_as.Right c.in-Ok-Right.after)) c.deref.ensures.value here in
    let right = stands.right in
    record {
      rules = ap (λ (s : Seen). s.rules) right.next ∙ c.loop-said.invariant.rules;
      workload = ap (λ (s : Seen). s.workload) right.next ∙ c.loop-said.invariant.workload;
      settled = subst (λ (s : Seen). WasSettled s.workload s.readings) (sym right.next) (settled-next (rules_named m.rules) m.workload m.readings e last right.holds);
      calm = stands.calm;
      rest = λ a comes. c.loop-said.invariant.rest a
          (subst (λ (s : Said). Comes c.args.rules w m.readings (with_said s before) a) (sym c.in-Next.is)
          (right-event c.args.rules w m next item before after records c.in-Ok.next last a c.in-Ok.ensures.gathers
          c.loop-said.invariant.rules c.loop-said.invariant.workload c.last_told.ensures right comes));
    }

pub returns-in-Ok-Broken : goal.returns-in-Ok-Broken
returns-in-Ok-Broken c =
    let w = c.args.workload.now in
    let m = seen c.loop-said.now.moment in
    let item = c.in-Next.item in
    let records = c.gather.new.records.items in
    let rule = c.in-Ok-Broken.rule in
    let last = line_told c.last_told.result in
    let before = left c.loop-said.reader in
    let after = left c.gather.new.reader in
    let whole = in_front (c.args.first ∷ []) (left c.args.reader.now) in
    let here : Judges m (event item.event item.proc c.deref.result.now) last (judged_as.Broken rule) =
    subst (λ (j : Judged). Judges m (event item.event item.proc c.deref.result.now) last j) c.in-Ok-Broken.field-0-is c.in-Ok-Broken.ensures in
    let breaks = subst (λ (rs : List Record). Judges m (event item.event item.proc rs) last (judged_as.Broken rule)) c.deref.ensures.value here in
    let has = c.in-Ok.ensures.gathers in
    subst (λ (one : Result Verdict Unread). IsChecked (rules_named c.args.rules) w whole one) (sym c.unless_bad.ensures)
    (break-found c.args.rules w m.readings (with_said (Next item) before) (with_said c.in-Ok.next after) c.args.first (left c.args.reader.now) (Broken item.event rule)
    (broken-event c.args.rules w m item before after records c.in-Ok.next last rule has c.loop-said.invariant.rules c.loop-said.invariant.workload c.last_told.ensures breaks)
    (λ bad is. bad-event c.args.rules w m.readings item before after records c.in-Ok.next bad has is)
    (λ a comes. c.loop-said.invariant.rest a (subst (λ (s : Said). Comes c.args.rules w m.readings (with_said s before) a) (sym c.in-Next.is) comes)))

pub returns-in-Err-judge_records : goal.returns-in-Err-judge_records
returns-in-Err-judge_records c =
    let w = c.args.workload.now in
    let r = (seen c.loop-said.now.moment).readings in
    let item = c.in-Next.item in
    let before = left c.loop-said.reader in
    let after = left c.gather.new.reader in
    let whole = in_front (c.args.first ∷ []) (left c.args.reader.now) in
    subst (λ (one : Result Verdict Unread). IsChecked (rules_named c.args.rules) w whole one) (sym c.unless_bad-in-Err-judge_records.ensures)
    (none-found c.args.rules w r (with_said (Next item) before) (with_said c.in-Ok.next after) whole
    (λ bad is. bad-event c.args.rules w r item before after c.gather.new.records.items c.in-Ok.next bad c.in-Ok.ensures.gathers is)
    (λ a comes. c.loop-said.invariant.rest a (subst (λ (s : Said). Comes c.args.rules w r (with_said s before) a) (sym c.in-Next.is) comes)))

pub returns : goal.returns
returns c =
    let w = c.args.workload.now in
    let r = (seen c.loop-said.now.moment).readings in
    judged c.args.rules w c.args.first (left c.args.reader.now) Legal
    (c.loop-said.invariant.rest (Ok Legal)
    (subst (λ (s : Said). Comes c.args.rules w r (with_said s (left c.loop-said.reader)) (Ok Legal)) (sym c.in_default.is) (Legal, refl, refl)))
