use Rattle.std.proofs.Common.{◌≡◌, ◌+◌, List, [], ◌∷◌, length, take, drop, get_or, refl, sym, ◌∙◌, ap, subst, arith}
use Rattle.std.specs.Prelude.{IsTrue}
use Rattle.std.proofs.Math.Seq.{take-length}
use Rattle.std.proofs.lemmas.Bool.{false≢true}
use Rattle.std.proofs.lemmas.List.{drop_more, drop_all}
use Rattle.sa_base.specs.declared.record.Record.{Record}
use Rattle.sa_laws.specs.Step.{AreSteps}
use Rattle.sa_laws.specs.Shape.{before_aims, before_wants, front_part, own_part}
use Rattle.sa_laws.specs.Upcalls.{TellsOnce, NamesTheLife, TellsAllThen, GivesUpcallThen, RaisesLine}
use Rattle.sa_check_shapes.proofs.PartLemmas.{take-front}
use Rattle.sa_check_moment.specs.Seen.{Seen, seen}
use Rattle.sa_check.specs.Items.{told_event}
use Rattle.sa_check.specs.Places.{WantsAreDue, AimsAreDue, LinesAreDue, HasShares, urged_at}
use Rattle.sa_check.specs.Records.{FoundMore, behind_some}
use Rattle.sa_check.proofs.PlaceLemmas.{take-before-wants, take-before-aims, take-own, found-behind}
use Rattle.sa_check.proofs.RecordLemmas.{rest-first, rest-more, rest-all, steps-more, no-step, moment-more, at-place, part-within, tail-whole, no_record}
use Rattle.sa_check.proofs.records.read_records.Goals as goal

pub loop-i-init : goal.loop-i-init
loop-i-init c =
    let m = seen c.args.moment in
    let e = told_event c.args.event.now in
    record {
      moment = refl;
      steps = record { same = (λ all. all, λ all. all) };
      told_once = rest-first TellsOnce m e _ c.new-laws.ensures.told_once;
      named = rest-first (NamesTheLife e.proc) m e _ c.new-laws.ensures.named;
      all_told = rest-first (TellsAllThen e.proc) m e _ c.new-laws.ensures.all_told;
      upcall_given = rest-first (GivesUpcallThen e.proc) m e _ c.new-laws.ensures.upcall_given;
      heard = rest-first RaisesLine m e _ c.new-laws.ensures.heard;
      wants = λ below. absurd (omega arith);
      aims = λ below. absurd (omega arith);
      lines = λ below. absurd (omega arith);
      urged = λ below. absurd (omega arith);
    }

pub read-requires : goal.read-requires
read-requires c = c.allows.ensures.0 c.if-not-allows.false

pub returns-then-not-allows : goal.returns-then-not-allows
returns-then-not-allows c =
    let now = seen c.loop-i.now in
    let e = told_event c.args.event.now in
    let x = get_or e.records c.loop-i.i no_record in
    no-step now (seen c.args.moment) e (drop c.loop-i.i e.records) x (drop (c.loop-i.i + 1) e.records)
    (drop_more e.records c.loop-i.i no_record c.loop-i-test.true)
    (λ needs. false≢true (sym c.if-not-allows.true ∙ c.allows.ensures.1 needs)) c.loop-i.invariant.steps

pub loop-i-preserved : goal.loop-i-preserved
loop-i-preserved c =
    let now = seen c.loop-i.now in
    let next = seen c.in_ok-now.now in
    let m = seen c.args.moment in
    let e = told_event c.args.event.now in
    let i = c.loop-i.i in
    let x = get_or e.records i no_record in
    let rest = drop i e.records in
    let others = drop (i + 1) e.records in
    let is : rest ≡ x ∷ others = drop_more e.records i no_record c.loop-i-test.true in
    let goes = c.in_ok-now.ensures in
    let old = c.loop-i.invariant in
    let due = c.in-Ok.ensures in
    let laws : FoundMore now.readings e.proc x others c.loop-i.laws c.and-laws.result =
    subst (λ (behind : List Record). FoundMore now.readings e.proc x behind c.loop-i.laws c.and-laws.result)
    (tail-whole e.records (i + 1)) c.and-laws.ensures in
    let places = c.of-places in
    record {
      moment = moment-more now next m e i no_record old.moment c.loop-i-test.true goes;
      steps = steps-more now next m e rest x others is goes (c.allows.ensures.0 c.if-not-allows.false) old.steps;
      told_once = rest-more TellsOnce now next m e rest x others _ _ is goes laws.told_once old.told_once;
      named = rest-more (NamesTheLife e.proc) now next m e rest x others _ _ is goes laws.named old.named;
      all_told = rest-more (TellsAllThen e.proc) now next m e rest x others _ _ is goes laws.all_told old.all_told;
      upcall_given = rest-more (GivesUpcallThen e.proc) now next m e rest x others _ _ is goes laws.upcall_given old.upcall_given;
      heard = rest-more RaisesLine now next m e rest x others _ _ is goes laws.heard old.heard;
      wants = found-behind places.result.wants i _ _ _ _ due.wants
          (at-place (λ s. WantsAreDue s e) now m e i _ (before_wants e.records) old.moment places.ensures.wants (take-before-wants e.records)) old.wants;
      aims = found-behind places.result.aims i _ _ _ _ due.aims
          (at-place (λ s. AimsAreDue s e) now m e i _ (before_aims e.records) old.moment places.ensures.aims (take-before-aims e.records)) old.aims;
      lines = found-behind places.result.lines i _ _ _ _ due.lines
          (at-place (λ s. LinesAreDue s e) now m e i _ (front_part e.records) old.moment places.ensures.lines (take-front e.records)) old.lines;
      urged = found-behind places.result.own i _ _ _ _ due.urged
          (at-place (λ s. IsTrue (urged_at s c.args.running)) now m e i _ (own_part e.records) old.moment places.ensures.own (take-own e.records)) old.urged;
    }

pub returns : goal.returns
returns c =
    let now = seen c.loop-i.now in
    let m = seen c.args.moment in
    let e = told_event c.args.event.now in
    let n = length e.records in
    let i = c.loop-i.i in
    let same : i ≡ n = omega arith in
    let none : drop i e.records ≡ [] = drop_all i e.records (omega arith) in
    let old = c.loop-i.invariant in
    let here : now ≡ behind_some m e (take n e.records) = old.moment ∙ ap (λ k. behind_some m e (take k e.records)) same in
    let due = c.in-Ok-and.ensures in
    let places = c.of-places in
    let wants_within = part-within e.records (before_wants e.records) _ places.ensures.wants (take-before-wants e.records) in
    let aims_within = part-within e.records (before_aims e.records) _ places.ensures.aims (take-before-aims e.records) in
    let own_within = part-within e.records (own_part e.records) _ places.ensures.own (take-own e.records) in
    let lines_within = part-within e.records (front_part e.records) _ places.ensures.lines (take-front e.records) in
    record {
      steps = old.steps.same.0 (subst (λ (left : List Record). AreSteps now.workload e.number e.proc now.readings left) (sym none) tt);
      moment = here ∙ ap (behind_some m e) (take-length e.records);
      laws = record {
        told_once = rest-all TellsOnce now m e _ _ none old.told_once;
        named = rest-all (NamesTheLife e.proc) now m e _ _ none old.named;
        all_told = rest-all (TellsAllThen e.proc) now m e _ _ none old.all_told;
        upcall_given = rest-all (GivesUpcallThen e.proc) now m e _ _ none old.upcall_given;
        heard = rest-all RaisesLine now m e _ _ none old.heard;
      };
      due = record {
        wants = found-behind places.result.wants n _ _ _ _ due.wants
            (at-place (λ s. WantsAreDue s e) now m e n _ (before_wants e.records) here places.ensures.wants (take-before-wants e.records))
            (λ past. old.wants (omega arith)) (omega arith);
        aims = found-behind places.result.aims n _ _ _ _ due.aims
            (at-place (λ s. AimsAreDue s e) now m e n _ (before_aims e.records) here places.ensures.aims (take-before-aims e.records))
            (λ past. old.aims (omega arith)) (omega arith);
        covered = subst (λ (s : Seen). IsTrue c.in-Ok-and.due.covered → HasShares s e.number) (here ∙ ap (behind_some m e) (take-length e.records)) due.covered;
        lines = found-behind places.result.lines n _ _ _ _ due.lines
            (at-place (λ s. LinesAreDue s e) now m e n _ (front_part e.records) here places.ensures.lines (take-front e.records))
            (λ past. old.lines (omega arith)) (omega arith);
        urged = λ early. found-behind places.result.own n _ _ _ _ due.urged
            (at-place (λ s. IsTrue (urged_at s c.args.running)) now m e n _ (own_part e.records) here places.ensures.own (take-own e.records))
            (λ past. old.urged (omega arith)) (omega arith);
      };
    }
