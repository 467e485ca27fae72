-- The ends of a trace's events are the ends of its history's events.
use Rattle.std.proofs.Common.{◌≡◌, ℕ, zero, suc, ◌+◌, ◌<◌, ◌≤◌, ◌⊎◌, inl, inr, refl, sym, ◌∙◌, ap, subst, arith, Some, List, [], ◌∷◌, ◌++◌, append_assoc, append-nil, true, false}
use Rattle.std.specs.Prelude.{slice_get, nat_le, Bool, if◌then◌else◌}
use Rattle.std.proofs.lemmas.Bool.Decides.{nat_tests}
use Rattle.std.proofs.lemmas.Option.{none-some, same_Some}
use Rattle.sa_base.specs.declared.number.ProcNo.{ProcNo}
use Rattle.sa_base.specs.declared.record.Record.{Record}
use Rattle.sa_base.specs.declared.record.Item.{Item}
use Rattle.sa_base.specs.Items.{items_at}
use Rattle.sa_laws.specs.Event.{Event, items_of}
use Rattle.sa_histories.specs.Lawful.{AreNumbered}
use Rattle.sa_promises.specs.Headline.{up_to}
use Rattle.sa_histories.proofs.Walk.{AtEnds, item}

pub if-yes : {A : Type 0} (b : Bool) (x y : A) → b ≡ true → (if b then x else y) ≡ x
if-yes true x y is = refl
if-yes false x y is = absurd (cc)

pub if-no : {A : Type 0} (b : Bool) (x y : A) → b ≡ false → (if b then x else y) ≡ y
if-no false x y is = refl
if-no true x y is = absurd (cc)

le-yes : (a b : ℕ) → a ≤ b → nat_le a b ≡ true
le-yes a b le = grind (arith, nat_tests)

le-no : (a b : ℕ) → b < a → nat_le a b ≡ false
le-no a b below = grind (arith, nat_tests)

-- an event that is not later belongs to it whole
up-event : (e n : ℕ) (p : ProcNo) (xs : List Record) (rest : List Item) → n ≤ e → up_to e (items_at n p xs ++ rest) ≡ items_at n p xs ++ up_to e rest
up-event e n p [] rest le = refl
up-event e n p (x ∷ xs) rest le =
    if-yes (nat_le n e) (item n p x ∷ up_to e (items_at n p xs ++ rest)) [] (le-yes n e le)
    ∙ ap (λ ys. item n p x ∷ ys) (up-event e n p xs rest le)

-- and later ones do not
up-none : (e n : ℕ) (p : ProcNo) (xs : List Record) (rest : List Item) → e < n → up_to e rest ≡ [] → up_to e (items_at n p xs ++ rest) ≡ []
up-none e n p [] rest below none = none
up-none e n p (x ∷ xs) rest below none = if-no (nat_le n e) (item n p x ∷ up_to e (items_at n p xs ++ rest)) [] (le-no n e below)

up-later : (e m : ℕ) (events : List Event) → e < m → AreNumbered m events → up_to e (items_of events) ≡ []
up-later e m [] below numbered = refl
up-later e m (f ∷ fs) below numbered =
    let number = numbered.0 in up-none e f.number f.proc f.records (items_of fs) (omega arith) (up-later e (m + 1) fs (omega arith) numbered.2)

-- an item of one list or of the other
get-cases : (xs ys : List Item) (j : ℕ) (x : Item) → slice_get (xs ++ ys) j ≡ Some x
    → (slice_get xs j ≡ Some x) ⊎ ((k : ℕ) × (slice_get ys k ≡ Some x))
get-cases [] ys j x at = inr (j, at)
get-cases (y ∷ xs) ys zero x at = inl at
get-cases (y ∷ xs) ys (suc j) x at = get-cases xs ys j x at

event-at : (n : ℕ) (p : ProcNo) (xs : List Record) (j : ℕ) (x : Item) → slice_get (items_at n p xs) j ≡ Some x → x.event ≡ n
event-at n p [] j x at = absurd (none-some x at)
event-at n p (y ∷ xs) zero x at = ap (λ (z : Item). z.event) (sym (same_Some (item n p y) x at))
event-at n p (y ∷ xs) (suc j) x at = event-at n p xs j x at

-- the items of events from m on have numbers from m on
from-number : (m : ℕ) (events : List Event) → AreNumbered m events → (j : ℕ) (x : Item) → slice_get (items_of events) j ≡ Some x → m ≤ x.event
from-number m [] numbered j x at = absurd (none-some x at)
from-number m (e ∷ es) numbered j x at = elim (get-cases (items_at e.number e.proc e.records) (items_of es) j x at) [
  | inl here ↦ let number = numbered.0 in let same = event-at e.number e.proc e.records j x here in omega arith
  | inr later ↦ let more = from-number (m + 1) es numbered.2 later.0 x later.1 in omega arith
]

pub ends-at : (E : List Item → ℕ → Type 0) (past : List Item) (m : ℕ) (events : List Event) → AreNumbered m events → AtEnds E past events
    → (j : ℕ) (x : Item) → slice_get (items_of events) j ≡ Some x → E (past ++ up_to x.event (items_of events)) x.event
ends-at E past m [] numbered ends j x at = absurd (none-some x at)
ends-at E past m (e ∷ es) numbered ends j x at =
    let first = items_at e.number e.proc e.records in
    let number = numbered.0 in
    elim (get-cases first (items_of es) j x at) [
      | inl here ↦
          let same = event-at e.number e.proc e.records j x here in
          let whole : up_to x.event (first ++ items_of es) ≡ first =
          up-event x.event e.number e.proc e.records (items_of es) (omega arith)
          ∙ ap (λ ys. first ++ ys) (up-later x.event (m + 1) es (omega arith) numbered.2) ∙ append-nil first in
          subst (λ n. E (past ++ up_to x.event (first ++ items_of es)) n) (sym same)
          (subst (λ ys. E (past ++ ys) e.number) (sym whole) ends.0)
      | inr later ↦
          let above = from-number (m + 1) es numbered.2 later.0 x later.1 in
          let whole : up_to x.event (first ++ items_of es) ≡ first ++ up_to x.event (items_of es) =
          up-event x.event e.number e.proc e.records (items_of es) (omega arith) in
          let there = ends-at E (past ++ first) (m + 1) es numbered.2 ends.1 later.0 x later.1 in
          subst (λ ys. E (past ++ ys) x.event) (sym whole)
          (subst (λ ys. E ys x.event) (append_assoc past first (up_to x.event (items_of es))) there)
    ]
