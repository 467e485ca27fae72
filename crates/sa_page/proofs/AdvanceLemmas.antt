-- An event in two parts.
use Rattle.std.proofs.Common.{◌≡◌, ℕ, sym, ◌∙◌, ap, subst, Bool, List, [], ◌∷◌, ◌++◌, Option}
use Rattle.sa_base.specs.declared.number.ProcNo.{ProcNo}
use Rattle.sa_base.specs.declared.number.ActNo.{ActNo}
use Rattle.sa_base.specs.declared.record.Record.{Record}
use Rattle.sa_spaces.specs.Workload.{WorkloadView}
use Rattle.sa_laws.specs.Event.{Event}
use Rattle.sa_laws.specs.Readings.{Readings, running_of}
use Rattle.sa_laws.specs.Record.{after_record}
use Rattle.sa_laws.specs.History.{after_records}
use Rattle.sa_laws.specs.Shape.{own_part, closing_part}
use Rattle.sa_laws.specs.Step.{AreSteps, IsStepwise}
use Rattle.sa_histories.proofs.Appended.{records-append, steps-append}
use Rattle.sa_check_moment.specs.Ending.{IsOver}
use Rattle.sa_check_moment.specs.Seen.{Seen, at_event, at_end, event}
use Rattle.sa_check.specs.Places.{urged_at}
use Rattle.sa_check.specs.Records.{behind_some}
use Rattle.sa_check.proofs.JudgeLemmas.{ended-is}
use Rattle.sa_cells.specs.declared.view.View.{View}
use Rattle.sa_page.specs.Advance.{IsBehind, ReadsSome, IsAdvanced}
use Rattle.sa_check.proofs.UrgedLemmas.{parts-are, over-is}

-- steps of records one after another are those of the first ones, and of those after them
steps-front : (w : WorkloadView) (e : ℕ) (p : ProcNo) (r : Readings) (xs ys : List Record) → AreSteps w e p r (xs ++ ys) → AreSteps w e p r xs
steps-front w e p r [] ys all = tt
steps-front w e p r (x ∷ xs) ys all = (all.0, steps-front w e p (after_record w e p r x) xs ys all.1)

steps-back : (w : WorkloadView) (e : ℕ) (p : ProcNo) (r : Readings) (xs ys : List Record)
    → AreSteps w e p r (xs ++ ys) → AreSteps w e p (after_records w e p r xs) ys
steps-back w e p r [] ys all = all
steps-back w e p r (x ∷ xs) ys all = steps-back w e p (after_record w e p r x) xs ys all.1

-- the parts of an event, as events
abbrev pub own_event : Event → Event
own_event e = event e.number e.proc (own_part e.records)

abbrev pub closing_event : Event → Event
closing_event e = event e.number e.proc (closing_part e.records)

-- the records of a stepwise event, from the moment as it begins
begun-steps : (m : Seen) (e : Event) → IsStepwise m.workload m.readings e
    → let s = at_event e.number e.proc m in AreSteps s.workload e.number e.proc s.readings (own_part e.records ++ closing_part e.records)
begun-steps m e is =
    let s = at_event e.number e.proc m in
    subst (λ (xs : List Record). AreSteps s.workload e.number e.proc s.readings xs) (sym (parts-are e.records)) is.steps

-- where a record of its own part is no step, the event is not stepwise
pub no-own : (m start : Seen) (e : Event) → start ≡ at_event e.number e.proc m
    → (AreSteps start.workload e.number e.proc start.readings (own_part e.records) → ⊥) → IsStepwise m.workload m.readings e → ⊥
no-own m start e begins none is =
    let s = at_event e.number e.proc m in
    none (subst (λ (x : Seen). AreSteps x.workload e.number e.proc x.readings (own_part e.records)) (sym begins)
    (steps-front s.workload e.number e.proc s.readings (own_part e.records) (closing_part e.records) (begun-steps m e is)))

-- and where one of its closing is none
pub no-closing : (m start own : Seen) (e : Event) → start ≡ at_event e.number e.proc m → IsBehind start (own_event e) own
    → (AreSteps own.workload e.number e.proc own.readings (closing_part e.records) → ⊥) → IsStepwise m.workload m.readings e → ⊥
no-closing m start own e begins read none is =
    let s = at_event e.number e.proc m in
    let here : own ≡ behind_some s (own_event e) (own_part e.records) =
    read.moment ∙ ap (λ (x : Seen). behind_some x (own_event e) (own_part e.records)) begins in
    none (subst (λ (x : Seen). AreSteps x.workload e.number e.proc x.readings (closing_part e.records)) (sym here)
    (steps-back s.workload e.number e.proc s.readings (own_part e.records) (closing_part e.records) (begun-steps m e is)))

-- all records
whole : (start own all : Seen) (e : Event) → IsBehind start (own_event e) own → IsBehind own (closing_event e) all → all ≡ behind_some start e e.records
whole start own all e first rest =
    rest.moment ∙ ap (λ (x : Seen). behind_some x (closing_event e) (closing_part e.records)) first.moment
    ∙ ap (λ (r : Readings). record start { readings = r })
    (sym (records-append start.workload e.number e.proc start.readings (own_part e.records) (closing_part e.records)))
    ∙ ap (behind_some start e) (parts-are e.records)

steps : (m start own all : Seen) (e : Event) → start ≡ at_event e.number e.proc m → IsBehind start (own_event e) own → IsBehind own (closing_event e) all
    → IsStepwise m.workload m.readings e
steps m start own all e begins first rest =
    let s = at_event e.number e.proc m in
    let front : AreSteps s.workload e.number e.proc s.readings (own_part e.records) =
    subst (λ (x : Seen). AreSteps x.workload e.number e.proc x.readings (own_part e.records)) begins first.steps in
    let here : own ≡ behind_some s (own_event e) (own_part e.records) =
    first.moment ∙ ap (λ (x : Seen). behind_some x (own_event e) (own_part e.records)) begins in
    let back : AreSteps s.workload e.number e.proc (after_records s.workload e.number e.proc s.readings (own_part e.records)) (closing_part e.records) =
    subst (λ (x : Seen). AreSteps x.workload e.number e.proc x.readings (closing_part e.records)) here rest.steps in
    record {
      steps =
          subst (λ (xs : List Record). AreSteps s.workload e.number e.proc s.readings xs) (parts-are e.records)
          (steps-append s.workload e.number e.proc s.readings (own_part e.records) (closing_part e.records) front back);
    }

-- what the end of the event needs
over : (m start own all : Seen) (e : Event) (running : Option ActNo) (urged : Bool) → start ≡ at_event e.number e.proc m
    → running ≡ running_of m.readings e.proc → IsBehind start (own_event e) own → IsBehind own (closing_event e) all → urged ≡ urged_at own running
    → IsOver m.readings e urged all
over m start own all e running urged begins runs first rest is =
    let same : urged ≡ urged_at (behind_some start e (own_part e.records)) running = is ∙ ap (λ (x : Seen). urged_at x running) first.moment in
    over-is m start all e running urged begins runs (whole start own all e first rest) (λ early. (λ yes. sym same ∙ yes, λ yes. same ∙ yes))

pub advanced : (m start own all next : Seen) (e : Event) → start ≡ at_event e.number e.proc m → IsBehind start (own_event e) own
    → IsBehind own (closing_event e) all → next ≡ at_end m.readings e.number e.proc e.records all → IsAdvanced m e next
advanced m start own all next e begins first rest ends =
    record { steps = steps m start own all e begins first rest; moment = ended-is m start all next e begins (whole start own all e first rest) ends }

-- the moment at the end of the event, where this is what it ends with
pub at-end : (m start own all next : Seen) (e : Event) (running : Option ActNo) (urged : Bool) → start ≡ at_event e.number e.proc m
    → running ≡ running_of m.readings e.proc → IsBehind start (own_event e) own → IsBehind own (closing_event e) all → urged ≡ urged_at own running
    → (IsOver m.readings e urged all → next ≡ at_end m.readings e.number e.proc e.records all) → next ≡ at_end m.readings e.number e.proc e.records all
at-end m start own all next e running urged begins runs first rest is ends = ends (over m start own all e running urged begins runs first rest is)

-- what is read of some records, where they are these
pub read-own : (start : Seen) (e : Event) (records : List Record) (found view : Option View) → records ≡ own_part e.records → found ≡ view
    → ReadsSome start (event e.number e.proc records) found → ReadsSome start (own_event e) view
read-own start e records found view same is reads =
    subst (λ (o : Option View). ReadsSome start (own_event e) o) is
    (subst (λ (rs : List Record). ReadsSome start (event e.number e.proc rs) found) same reads)

pub read-closing : (own : Seen) (e : Event) (records : List Record) (found view : Option View) → records ≡ closing_part e.records → found ≡ view
    → ReadsSome own (event e.number e.proc records) found → ReadsSome own (closing_event e) view
read-closing own e records found view same is reads =
    subst (λ (o : Option View). ReadsSome own (closing_event e) o) is
    (subst (λ (rs : List Record). ReadsSome own (event e.number e.proc rs) found) same reads)
