use Rattle.std.proofs.Common.{◌≡◌, ◌+◌, List, [], ◌∷◌, length, take, drop, get_or, refl, sym, ◌∙◌, ap, subst, arith}
use Rattle.std.proofs.Math.Seq.{take-length}
use Rattle.std.proofs.lemmas.Bool.{false≢true, true≢false}
use Rattle.std.proofs.lemmas.List.{drop_more, drop_all}
use Rattle.sa_base.specs.declared.record.Record.{Record}
use Rattle.sa_laws.specs.Step.{AreSteps}
use Rattle.sa_laws.specs.Upcalls.{TellsOnce, NamesTheLife, TellsAllThen, GivesUpcallThen, RaisesLine}
use Rattle.sa_check_moment.specs.Seen.{seen}
use Rattle.sa_check.specs.Items.{told_event}
use Rattle.sa_check.specs.Records.{behind_some}
use Rattle.sa_check.proofs.RecordLemmas.{steps-more, no-step, moment-more, no_record}
use Rattle.sa_check.proofs.QuietLemmas.{each-quiet, once-holds, named-holds, all-holds, upcall-holds, heard-holds, quiet-asks}
use Rattle.sa_check.proofs.quiet.read_quiet.Goals as goal

pub loop-what-init : goal.loop-what-init
loop-what-init c = record { moment = refl; steps = record { same = (λ all. all, λ all. all) } }

pub read-requires : goal.read-requires
read-requires c = c.allows.ensures.0 c.if-not-allows.false

pub returns-then-not-allows : goal.returns-then-not-allows
returns-then-not-allows c =
    let now = seen c.loop-what.now in
    let e = told_event c.args.event.now in
    let i = c.loop-what.what-index in
    let x = get_or e.records i no_record in
    no-step now (seen c.args.moment) e (drop i e.records) x (drop (i + 1) e.records) (drop_more e.records i no_record c.loop-what-test.true)
    (λ needs. false≢true (sym c.if-not-allows.true ∙ c.allows.ensures.1 needs)) c.loop-what.invariant.steps

pub loop-what-preserved : goal.loop-what-preserved
loop-what-preserved c =
    let now = seen c.loop-what.now in
    let next = seen c.in_ok-now.now in
    let m = seen c.args.moment in
    let e = told_event c.args.event.now in
    let i = c.loop-what.what-index in
    let x = get_or e.records i no_record in
    let rest = drop i e.records in
    let others = drop (i + 1) e.records in
    let is : rest ≡ x ∷ others = drop_more e.records i no_record c.loop-what-test.true in
    let goes = c.in_ok-now.ensures in
    record {
      moment = moment-more now next m e i no_record c.loop-what.invariant.moment c.loop-what-test.true goes;
      steps = steps-more now next m e rest x others is goes (c.allows.ensures.0 c.if-not-allows.false) c.loop-what.invariant.steps;
    }

pub returns : goal.returns
returns c =
    let now = seen c.loop-what.now in
    let m = seen c.args.moment in
    let e = told_event c.args.event.now in
    let n = length e.records in
    let i = c.loop-what.what-index in
    let same : i ≡ n = omega arith in
    let none : drop i e.records ≡ [] = drop_all i e.records (omega arith) in
    let here : now ≡ behind_some m e e.records =
    c.loop-what.invariant.moment ∙ ap (λ k. behind_some m e (take k e.records)) same ∙ ap (behind_some m e) (take-length e.records) in
    let quiet = c.requires.quiet in
    let found = c.new.ensures in
    record {
      steps = c.loop-what.invariant.steps.same.0 (subst (λ (left : List Record). AreSteps now.workload e.number e.proc now.readings left) (sym none) tt);
      moment = here;
      laws = record {
        told_once = (λ _. each-quiet TellsOnce once-holds m.workload e.number e.proc m.readings e.records quiet, λ _. found.told_once);
        named = (λ _. each-quiet (NamesTheLife e.proc) (named-holds e.proc) m.workload e.number e.proc m.readings e.records quiet, λ _. found.named);
        all_told = (λ _. each-quiet (TellsAllThen e.proc) (all-holds e.proc) m.workload e.number e.proc m.readings e.records quiet, λ _. found.all_told);
        upcall_given =
            (λ _. each-quiet (GivesUpcallThen e.proc) (upcall-holds e.proc) m.workload e.number e.proc m.readings e.records quiet, λ _. found.upcall_given);
        heard = (λ _. each-quiet RaisesLine heard-holds m.workload e.number e.proc m.readings e.records quiet, λ _. found.heard);
      };
      due = record {
        urged = λ early. absurd (true≢false (sym (quiet-asks e.records quiet) ∙ early));
        wants = (λ _. c.requires.none.wants, λ _. c.new-2.ensures.wants);
        aims = (λ _. c.requires.none.aims, λ _. c.new-2.ensures.aims);
        covered = λ yes. absurd (false≢true (sym c.new-2.ensures.covered ∙ yes));
        lines = (λ _. c.requires.none.lines, λ _. c.new-2.ensures.lines);
      };
    }
