use Rattle.std.proofs.Common.{◌≡◌, ◌+◌, [], ◌∷◌, length, take, drop, get_or, refl, sym, ◌∙◌, ap, subst, arith}
use Rattle.std.proofs.Math.Seq.{take-length}
use Rattle.std.proofs.lemmas.List.{drop_more, drop_all}
use Rattle.sa_laws.specs.Step.{AreSteps}
use Rattle.sa_check_moment.specs.Seen.{seen, event}
use Rattle.sa_check.specs.Records.{behind_some}
use Rattle.sa_check.proofs.RecordLemmas.{steps-more, no-step, moment-more, no_record}
use Rattle.sa_page.proofs.advance.read_some.Goals as goal

pub loop-what-init : goal.loop-what-init
loop-what-init c = record { moment = refl; steps = record { same = (λ all. all, λ all. all) } }

pub read-requires : goal.read-requires
read-requires c = c.allows.ensures.0 c.if-not-allows.false

pub returns-then-not-allows : goal.returns-then-not-allows
returns-then-not-allows c =
    let now = seen c.loop-what.now.moment in
    let e = event c.args.number c.args.p c.args.records.now in
    let i = c.loop-what.what-index in
    let x = get_or e.records i no_record in
    no-step now (seen c.args.view.moment) e (drop i e.records) x (drop (i + 1) e.records) (drop_more e.records i no_record c.loop-what-test.true)
    (λ needs. let yes = c.allows.ensures.1 needs in let no = c.if-not-allows.true in cc) c.loop-what.invariant.steps

pub loop-what-preserved : goal.loop-what-preserved
loop-what-preserved c =
    let now = seen c.loop-what.now.moment in
    let next = seen c.in_ok-now.now.moment in
    let m = seen c.args.view.moment in
    let e = event c.args.number c.args.p c.args.records.now in
    let i = c.loop-what.what-index in
    let x = get_or e.records i no_record in
    let rest = drop i e.records in
    let others = drop (i + 1) e.records in
    let is : rest ≡ x ∷ others = drop_more e.records i no_record c.loop-what-test.true in
    let goes = c.in_ok-now.ensures in
    record {
      moment = moment-more now next m e i no_record c.loop-what.invariant.moment c.loop-what-test.true goes;
      steps = steps-more now next m e rest x others is goes (c.allows.ensures.0 c.if-not-allows.false) c.loop-what.invariant.steps;
    }

pub returns : goal.returns
returns c =
    let now = seen c.loop-what.now.moment in
    let m = seen c.args.view.moment in
    let e = event c.args.number c.args.p c.args.records.now in
    let i = c.loop-what.what-index in
    let same : i ≡ length e.records = omega arith in
    let none : drop i e.records ≡ [] = drop_all i e.records (omega arith) in
    let old = c.loop-what.invariant in
    record {
      steps = old.steps.same.0 (subst (λ left. AreSteps now.workload e.number e.proc now.readings left) (sym none) tt);
      moment = old.moment ∙ ap (λ k. behind_some m e (take k e.records)) same ∙ ap (behind_some m e) (take-length e.records);
    }
