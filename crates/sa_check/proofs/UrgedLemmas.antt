-- What is known of pairs at the end of an event, where they are asked for before its last record.
use Rattle.std.proofs.Common.{◌≡◌, ◌↔◌, ℕ, zero, suc, refl, sym, ◌∙◌, ap, subst, Bool, true, false, List, [], ◌∷◌, ◌++◌, length, drop, Option, Some, None}
use Rattle.std.specs.Prelude.{IsTrue, if◌then◌else◌}
use Rattle.std.specs.List.{list_any, prefix_len}
use Rattle.std.specs.Option.{option_map}
use Rattle.std.proofs.lemmas.Option.{same_Some}
use Rattle.std.proofs.lemmas.Bool.{or_parts}
use Rattle.sa_lemmas.proofs.ListReads.{take_then_drop}
use Rattle.sa_base.specs.declared.number.ProcNo.{ProcNo}
use Rattle.sa_base.specs.declared.number.SpaceNo.{SpaceNo}
use Rattle.sa_base.specs.declared.number.ActNo.{ActNo}
use Rattle.sa_base.specs.declared.record.Note.TheVariants.{Preempted, Unblocked}
use Rattle.sa_base.specs.declared.record.Record.{Record}
use Rattle.sa_base.specs.declared.record.Record.TheVariants.{Ins, Run, Stop, Block, Unblock, Cont, Back, Ready, Take, Free, Up, Told, Move, Fetched, GiveBack}
use Rattle.sa_spaces.specs.Workload.{WorkloadView}
use Rattle.sa_laws.specs.Event.{Event}
use Rattle.sa_laws.specs.Life.{Life, inherits, bereft}
use Rattle.sa_laws.specs.Readings.{Readings, running_of, life_of, life_if}
use Rattle.sa_laws.specs.Record.{after_record, with_life, handed}
use Rattle.sa_laws.specs.History.{after_records, behind, behind_all, event_begun}
use Rattle.sa_laws.specs.Shape.{is_own, own_part, closing_part}
use Rattle.sa_ranks.specs.Pairs.{has_pair}
use Rattle.sa_ranks.specs.Inside.{is_of_entry, begins_entry, has_entry, settling}
use Rattle.sa_histories.proofs.Appended.{records-append}
use Rattle.sa_base.specs.declared.package.RulesName.{RulesName}
use Rattle.sa_base.specs.declared.package.RulesName.TheVariants.{Priorities}
use Rattle.sa_check_moment.specs.Seen.{Seen, at_event}
use Rattle.sa_check_moment.specs.Urged.{urged_by, is_closed, asks_last}
use Rattle.sa_check_moment.specs.Ending.{IsOver}
use Rattle.sa_check.specs.Places.{urged_at}
use Rattle.sa_check.specs.Records.{behind_some}
use Rattle.sa_check.proofs.QuietLemmas.{life-kept}

abbrev space_of : Option Life → Option SpaceNo
space_of life = option_map (λ (x : Life). x.space) life

-- a record of no entry leaves the spaces of lives
handed-space : (upped : Option ActNo) (b : ActNo) (from : Option Life) (lives : ℕ → Option Life) (a : ActNo)
    → space_of (handed upped b from lives a.0) ≡ space_of (lives a.0)
handed-space upped b None lives a = refl
handed-space upped b (Some from) lives a =
    life-kept (inherits from) (λ (x : Life). x.space) (λ x. refl) upped (with_life bereft (Some b) lives) a
    ∙ life-kept bereft (λ (x : Life). x.space) (λ x. refl) (Some b) lives a

module _ (w : WorkloadView) (e : ℕ) (p : ProcNo) where
  one-space : (r : Readings) (x : Record) → is_of_entry x ≡ false → (a : ActNo) → space_of (life_of (after_record w e p r x) a) ≡ space_of (life_of r a)
  one-space r (Ins s t i) h a = life-kept _ (λ (x : Life). x.space) (λ x. refl) (running_of r p) r.lives a
  one-space r (Run s t) h a = life-kept _ (λ (x : Life). x.space) (λ x. refl) (running_of r p) r.lives a
  one-space r (Stop s t b) h a = absurd cc
  one-space r (Block s t b io) h a = absurd cc
  one-space r (Unblock s t b) h a = absurd cc
  one-space r (Cont s t) h a = life-kept _ (λ (x : Life). x.space) (λ x. refl) (running_of r p) r.lives a
  one-space r (Back s t) h a = life-kept _ (λ (x : Life). x.space) (λ x. refl) (running_of r p) r.lives a
  one-space r (Ready s t) h a = life-kept _ (λ (x : Life). x.space) (λ x. refl) (running_of r p) r.lives a
  one-space r (Take s l t) h a = life-kept _ (λ (x : Life). x.space) (λ x. refl) (running_of r p) r.lives a
  one-space r (Free s l t) h a = life-kept _ (λ (x : Life). x.space) (λ x. refl) (running_of r p) r.lives a
  one-space r (Up s b) h a = absurd cc
  one-space r (Told (Preempted b)) h a = handed-space r.upped b (life_of r b) r.lives a
  one-space r (Told (Unblocked b)) h a = handed-space r.upped b (life_of r b) r.lives a
  one-space r (Move from to) h a = absurd cc
  one-space r (Fetched s) h a = absurd cc
  one-space r (GiveBack b) h a = absurd cc
  one-space r _ h a = refl

  all-spaces : (r : Readings) (xs : List Record) → list_any is_of_entry xs ≡ false → (a : ActNo)
      → space_of (life_of (after_records w e p r xs) a) ≡ space_of (life_of r a)
  all-spaces r [] h a = refl
  all-spaces r (x ∷ xs) h a =
      let each = or_parts (is_of_entry x) (list_any is_of_entry xs) h in
      all-spaces (after_record w e p r x) xs each.1 a ∙ one-space r x each.0 a

none-of : (xs : List Record) → has_entry xs ≡ false → list_any is_of_entry xs ≡ false
none-of [] h = refl
none-of (x ∷ xs) h = (or_parts (begins_entry x) (list_any is_of_entry (x ∷ xs)) h).1

none-behind : (n : ℕ) (xs : List Record) → list_any is_of_entry xs ≡ false → list_any is_of_entry (drop n xs) ≡ false
none-behind zero xs h = h
none-behind (suc n) [] h = refl
none-behind (suc n) (x ∷ xs) h = none-behind n xs (or_parts (is_of_entry x) (list_any is_of_entry xs) h).1

pub parts-are : (xs : List Record) → own_part xs ++ closing_part xs ≡ xs
parts-are [] = refl
parts-are (x ∷ xs) = ap (λ ys. x ∷ ys) (take_then_drop (prefix_len is_own xs) xs)

-- a pair of the space of a life that is in use
urged-as : (w : WorkloadView) (r : Readings) (o : Option Life) (s : SpaceNo) → space_of o ≡ Some s → urged_by Priorities w r o ≡ has_pair w r s
urged-as w r None s is = absurd cc
urged-as w r (Some life) s is = ap (has_pair w r) (same_Some life.space s is)

same-truth : (a b : Bool) → (IsTrue a ↔ IsTrue b) → a ≡ b
same-truth true true is = refl
same-truth false false is = refl
same-truth true false is = sym (is.0 refl)
same-truth false true is = is.1 refl

-- the life by its number, if one is given
space-if : (r q : Readings) → ((a : ActNo) → space_of (life_of q a) ≡ space_of (life_of r a)) → (a : Option ActNo) → space_of (life_if q a) ≡ space_of (life_if r a)
space-if r q same None = refl
space-if r q same (Some a) = same a

-- these are all records of an event, and what is known of pairs is what is asked behind its own part, where it is asked for there
pub over-is : (m start all : Seen) (e : Event) (running : Option ActNo) (urged : Bool) → start ≡ at_event e.number e.proc m
    → running ≡ running_of m.readings e.proc → all ≡ behind_some start e e.records
    → (asks_last e.records ≡ false → (IsTrue urged ↔ IsTrue (urged_at (behind_some start e (own_part e.records)) running))) → IsOver m.readings e urged all
over-is m start all e running urged begins runs reads asked =
    subst (λ (s : Seen). IsOver m.readings e urged s) (sym (reads ∙ ap (λ (s : Seen). behind_some s e e.records) begins)) (record {
      moment = refl;
      pairs = record { known = λ ranks early life at. known ranks early life at };
    })
  where
    known : m.rules ≡ Priorities → asks_last e.records ≡ false → (life : Life)
        → life_if (behind_all m.workload e m.readings) (running_of m.readings e.proc) ≡ Some life
        → urged ≡ has_pair m.workload (settling m.workload m.readings e (behind_all m.workload e m.readings)) life.space
    known ranks early life at =
        let w = m.workload in
        let q = behind w e m.readings (own_part e.records) in
        let after = behind_all w e m.readings in
        let none = (or_parts (has_entry e.records) (is_closed (closing_part e.records)) early).0 in
        let ends : after_records w e.number e.proc q (closing_part e.records) ≡ after =
        sym (records-append w e.number e.proc (event_begun w e m.readings) (own_part e.records) (closing_part e.records))
        ∙ ap (after_records w e.number e.proc (event_begun w e m.readings)) (parts-are e.records) in
        let spaces : (a : ActNo) → space_of (life_of after a) ≡ space_of (life_of q a) =
        λ a. ap (λ (r : Readings). space_of (life_of r a)) (sym ends)
        ∙ all-spaces w e.number e.proc q (closing_part e.records) (none-behind (length (own_part e.records)) e.records (none-of e.records none)) a in
        let there : space_of (life_if q running) ≡ Some life.space =
        sym (space-if q after spaces running) ∙ ap (λ (a : Option ActNo). space_of (life_if after a)) runs ∙ ap space_of at in
        same-truth urged (urged_at (behind_some start e (own_part e.records)) running) (asked early)
        ∙ ap (λ (s : Seen). urged_at (behind_some s e (own_part e.records)) running) begins
        ∙ ap (λ (l : RulesName). urged_by l w q (life_if q running)) ranks ∙ urged-as w q (life_if q running) life.space there
        ∙ sym (ap (λ b. has_pair w (if b then after else q) life.space) none)
