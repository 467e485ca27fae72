use Rattle.std.proofs.Common.{refl, sym, subst, Option}
use Rattle.std.specs.Prelude.{not, find}
use Rattle.sa_laws.specs.Rules.{rules}
use Rattle.sa_ranks.specs.Packages.{rules_named}
use Rattle.sa_check_moment.specs.Seen.{seen}
use Rattle.sa_check.specs.declared.judge.Between.{Between}
use Rattle.sa_check.specs.declared.records.ReadThrough.{ReadThrough}
use Rattle.sa_check.specs.Items.{told_event}
use Rattle.sa_check.specs.Records.{ReadsRecords}
use Rattle.sa_check.specs.Findings.{found_of}
use Rattle.sa_check.specs.Judged.{Judges}
use Rattle.sa_check.specs.Sides.{line_told}
use Rattle.sa_check.proofs.JudgeLemmas.{step-breaks, FirstIs, judged-so, judges, quiet-from, read-on, known-after}
use Rattle.sa_check.proofs.judge.judge_event.Goals as goal

pub begin-beginning-requires : goal.begin-beginning-requires
begin-beginning-requires c = λ yes. (c.requires.quiet yes).quiet

pub read_event-requires : goal.read_event-requires
read_event-requires c = λ yes.
    quiet-from (seen c.args.moment) (seen c.begin-beginning.new.moment) (told_event c.args.event.now) c.requires.numbered (c.requires.settled yes)
    c.begin-beginning.ensures.event_begun (c.requires.quiet yes)

pub look_after-requires : goal.look_after-requires
look_after-requires c =
    let m = seen c.args.moment in
    let start = seen c.begin-beginning.new.moment in
    let next = seen c.in_ok-after.after in
    let e = told_event c.args.event.now in
    let running = c.begin-beginning.result.start.running in
    known-after m start next e running c.in-Some.through c.args.quiet c.requires.numbered c.requires.settled c.requires.quiet
    c.begin-beginning.ensures.event_begun
    (read-on m start next e running c.in_ok-through.field-0 c.in-Some.through c.begin-beginning.ensures.event_begun c.begin-beginning.ensures.running
    c.in-Some.is c.in_ok-through.ensures (c.in_ok-after.ensures m.readings c.begin-beginning.ensures.running c.begin-beginning.ensures.lowers))

pub returns-in_default : goal.returns-in_default
returns-in_default c =
    let m = seen c.args.moment in
    let start = seen c.begin-beginning.new.moment in
    let e = told_event c.args.event.now in
    let running = c.begin-beginning.result.start.running in
    step-breaks m start e (line_told c.args.last) c.requires.numbered c.begin-beginning.ensures.event_begun
    (subst (λ (o : Option ReadThrough). ReadsRecords start e running o) c.in_default.is c.in_ok-through.ensures)

pub returns : goal.returns
returns c =
    let m = seen c.args.moment in
    let start = seen c.begin-beginning.new.moment in
    let next = seen c.in_ok-after.after in
    let e = told_event c.args.event.now in
    let running = c.begin-beginning.result.start.running in
    let through = c.in-Some.through in
    let on =
    read-on m start next e running c.in_ok-through.field-0 through c.begin-beginning.ensures.event_begun c.begin-beginning.ensures.running
    c.in-Some.is c.in_ok-through.ensures (c.in_ok-after.ensures m.readings c.begin-beginning.ensures.running c.begin-beginning.ensures.lowers) in
    let first = find (λ rule. not (found_of c.findings_of-findings.result rule)) rules in
    let all : FirstIs (rules_named m.rules) m.workload m.readings e (line_told c.args.last) first =
    judged-so m start next e (line_told c.args.last) c.begin-beginning.result running through c.in-Ok.ending
    c.requires.numbered c.begin-beginning.ensures.found c.begin-beginning.ensures.event_begun on.read on.next c.in-Ok.ensures
    c.findings_of-findings.result first c.findings_of-findings.ensures refl in
    let now : Between = record { moment = c.in_ok-after.after; calm = c.in-Ok.ending.calm } in
    subst (Judges m e (line_told c.args.last)) (sym c.judge_by.ensures)
    (judges m e (line_told c.args.last) first now all on.next c.in-Ok.ensures.calm)
