-- The records of an event, read one by one.
use Rattle.std.proofs.Common.{◌≡◌, ◌↔◌, ℕ, ◌+◌, ◌-◌, ◌<◌, ◌≤◌, sym, ◌∙◌, ap, subst, arith, List, [], ◌∷◌, length, length-drop, take, drop, get_or, Bool, true}
use Rattle.std.proofs.lemmas.List.{take_more, take_all, length-take}
use Rattle.sa_histories.proofs.Appended.{records-append}
use Rattle.std.specs.Prelude.{IsTrue}
use Rattle.sa_base.specs.declared.record.Record.{Record}
use Rattle.sa_base.specs.declared.record.Record.TheVariants.{Ins}
use Rattle.sa_laws.specs.Event.{Event}
use Rattle.sa_laws.specs.Step.{AreSteps, Needs}
use Rattle.sa_laws.specs.Upcalls.{RecordLaw, EachRecord}
use Rattle.sa_check_moment.specs.Seen.{Seen, behind_record}
use Rattle.sa_check.specs.Records.{Each, behind_some}

-- what is read past the last record
abbrev pub no_record : Record
no_record = Ins (record { 0 = 0 }) (record { 0 = 0 }) 0

-- what was found of a law so far, and that it holds of the rest, is that it holds of all
pub record Rest (L : RecordLaw) (now m : Seen) (e : Event) (rest : List Record) (found : Bool) : Type 0 where
  pub same : (IsTrue found × EachRecord L now.workload e.number e.proc now.readings rest) ↔ Each L m e

-- the rest are steps exactly where all are
pub record StepsRest (now m : Seen) (e : Event) (rest : List Record) : Type 0 where
  pub same : AreSteps now.workload e.number e.proc now.readings rest ↔ AreSteps m.workload e.number e.proc m.readings e.records

pub rest-first : (L : RecordLaw) (m : Seen) (e : Event) (found : Bool) → found ≡ true → Rest L m m e e.records found
rest-first L m e found is = record { same = (λ both. both.1, λ all. (is, all)) }

pub rest-more : (L : RecordLaw) (now next m : Seen) (e : Event) (rest : List Record) (x : Record) (xs : List Record) (before found : Bool) → rest ≡ x ∷ xs
    → next ≡ behind_record e.number e.proc x now → (IsTrue found ↔ (IsTrue before × L now.readings x xs))
    → Rest L now m e rest before → Rest L next m e xs found
rest-more L now next m e rest x xs before found is goes more old =
    let old' : Rest L now m e (x ∷ xs) before = subst (λ (ys : List Record). Rest L now m e ys before) is old in
    subst (λ (s : Seen). Rest L s m e xs found) (sym goes) (record {
      same = (
        λ both. let one = more.0 both.0 in old'.same.0 (one.0, (one.1, both.1)),
        λ all. let split = old'.same.1 all in (more.1 (split.0, split.1.0), split.1.1),
      );
    })

pub rest-all : (L : RecordLaw) (now m : Seen) (e : Event) (rest : List Record) (found : Bool) → rest ≡ [] → Rest L now m e rest found
    → (IsTrue found ↔ Each L m e)
rest-all L now m e rest found none old =
    let old' : Rest L now m e [] found = subst (λ (ys : List Record). Rest L now m e ys found) none old in
    (λ yes. old'.same.0 (yes, tt), λ all. (old'.same.1 all).0)

pub steps-more : (now next m : Seen) (e : Event) (rest : List Record) (x : Record) (xs : List Record) → rest ≡ x ∷ xs
    → next ≡ behind_record e.number e.proc x now → Needs now.workload e.proc now.readings x → StepsRest now m e rest → StepsRest next m e xs
steps-more now next m e rest x xs is goes needs old =
    let old' : StepsRest now m e (x ∷ xs) = subst (λ (ys : List Record). StepsRest now m e ys) is old in
    subst (λ (s : Seen). StepsRest s m e xs) (sym goes) (record {
      same = (λ others. old'.same.0 (needs, others), λ all. (old'.same.1 all).1);
    })

pub no-step : (now m : Seen) (e : Event) (rest : List Record) (x : Record) (xs : List Record) → rest ≡ x ∷ xs
    → (Needs now.workload e.proc now.readings x → ⊥) → StepsRest now m e rest → AreSteps m.workload e.number e.proc m.readings e.records → ⊥
no-step now m e rest x xs is stuck old all =
    let old' : StepsRest now m e (x ∷ xs) = subst (λ (ys : List Record). StepsRest now m e ys) is old in
    stuck (old'.same.1 all).0

-- after one record more
pub moment-more : (now next m : Seen) (e : Event) (i : ℕ) (d : Record) → now ≡ behind_some m e (take i e.records) → i < length e.records
    → next ≡ behind_record e.number e.proc (get_or e.records i d) now → next ≡ behind_some m e (take (i + 1) e.records)
moment-more now next m e i d here within goes =
    let x = get_or e.records i d in
    goes ∙ ap (behind_record e.number e.proc x) here
    ∙ ap (λ r. record m { readings = r }) (sym (records-append m.workload e.number e.proc m.readings (take i e.records) (x ∷ [])))
    ∙ ap (behind_some m e) (sym (take_more e.records i d within))

-- a place of the event, as the moment after a part of it
pub at-place : (P : Seen → Type 0) (now m : Seen) (e : Event) (i due : ℕ) (part : List Record) → now ≡ behind_some m e (take i e.records)
    → due ≡ length part → take (length part) e.records ≡ part → i ≡ due → (P now ↔ P (behind_some m e part))
at-place P now m e i due part here is front same =
    let there : now ≡ behind_some m e part = here ∙ ap (λ n. behind_some m e (take n e.records)) (same ∙ is) ∙ ap (behind_some m e) front in
    (λ p. subst P there p, λ p. subst P (sym there) p)

pub part-within : (records part : List Record) (due : ℕ) → due ≡ length part → take (length part) records ≡ part → due ≤ length records
part-within records part due is front =
    let len : length (take (length part) records) ≡ length part = ap length front in
    omega (arith, is, len, length-take (length part) records)

pub tail-whole : (records : List Record) (k : ℕ) → take (length records - k) (drop k records) ≡ drop k records
tail-whole records k = take_all (length records - k) (drop k records) (omega (arith, length-drop k records))
