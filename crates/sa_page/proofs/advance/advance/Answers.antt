use Rattle.std.proofs.Common.{sym, ◌∙◌, ap, Some, None}
use Rattle.sa_check_moment.specs.Seen.{Seen, seen}
use Rattle.sa_check.specs.Items.{told_event}
use Rattle.sa_page.proofs.AdvanceLemmas.{no-own, no-closing, at-end, advanced, read-own, read-closing}
use Rattle.sa_page.proofs.advance.advance.Goals as goal

pub returns-in_default : goal.returns-in_default
returns-in_default c =
    let e = told_event c.args.event.now in
    let start = seen c.begin-begun.result.moment in
    no-own (seen c.args.view.moment) start e c.begin-begun.ensures
    (read-own start e c.own_part.result.now c.in_ok-own.field-0 None c.own_part.ensures c.in_default.is c.in_ok-own.ensures)

pub returns-in_default-2 : goal.returns-in_default-2
returns-in_default-2 c =
    let e = told_event c.args.event.now in
    let start = seen c.begin-begun.result.moment in
    let own = seen c.in-Some.own.moment in
    no-closing (seen c.args.view.moment) start own e c.begin-begun.ensures
    (read-own start e c.own_part.result.now c.in_ok-own.field-0 (Some c.in-Some.own) c.own_part.ensures c.in-Some.is c.in_ok-own.ensures)
    (read-closing own e c.closing_part.result.now c.in_ok-all.field-0 None c.closing_part.ensures c.in_default-2.is c.in_ok-all.ensures)

pub invariant_of-result : goal.invariant_of-result
invariant_of-result c =
    let e = told_event c.args.event.now in
    let m = seen c.args.view.moment in
    let start = seen c.begin-begun.result.moment in
    let own = seen c.in-Some.own.moment in
    let all = seen c.in-Some-2.all.moment in
    let ends =
    at-end m start own all (seen c.in_ok-moment.moment) e c.before-start.result.running c.is_urged-urged.result c.begin-begun.ensures
    c.before-start.ensures.running
    (read-own start e c.own_part.result.now c.in_ok-own.field-0 (Some c.in-Some.own) c.own_part.ensures c.in-Some.is c.in_ok-own.ensures)
    (read-closing own e c.closing_part.result.now c.in_ok-all.field-0 (Some c.in-Some-2.all) c.closing_part.ensures c.in-Some-2.is c.in_ok-all.ensures)
    c.is_urged-urged.ensures (c.in_ok-moment.ensures m.readings c.before-start.ensures.running c.before-start.ensures.lowers) in
    record {
      same_state = c.in-Some-2.all.same_state ∙ ap (λ (s : Seen). s.readings.state) (sym ends);
      same_workload = c.in-Some-2.all.same_workload ∙ ap (λ (s : Seen). s.workload) (sym ends);
    }

pub returns : goal.returns
returns c =
    let e = told_event c.args.event.now in
    let m = seen c.args.view.moment in
    let start = seen c.begin-begun.result.moment in
    let own = seen c.in-Some.own.moment in
    let all = seen c.in-Some-2.all.moment in
    let first =
    read-own start e c.own_part.result.now c.in_ok-own.field-0 (Some c.in-Some.own) c.own_part.ensures c.in-Some.is c.in_ok-own.ensures in
    let rest =
    read-closing own e c.closing_part.result.now c.in_ok-all.field-0 (Some c.in-Some-2.all) c.closing_part.ensures c.in-Some-2.is c.in_ok-all.ensures in
    advanced m start own all (seen c.in_ok-moment.moment) e c.begin-begun.ensures first rest
    (at-end m start own all (seen c.in_ok-moment.moment) e c.before-start.result.running c.is_urged-urged.result c.begin-begun.ensures
    c.before-start.ensures.running first rest c.is_urged-urged.ensures
    (c.in_ok-moment.ensures m.readings c.before-start.ensures.running c.before-start.ensures.lowers))
