-- A flat trace and its history.
use Rattle.std.proofs.Common.{◌≡◌, ℕ, refl, sym, ◌∙◌, ap, subst, Some, List, [], ◌∷◌, take, true, false}
use Rattle.std.specs.Prelude.{slice_get, ◌==◌, Bool, if◌then◌else◌}
use Rattle.std.proofs.lemmas.Bool.{and_parts, eqb-true}
use Rattle.sa_base.specs.declared.number.ProcNo.{ProcNo}
use Rattle.sa_base.specs.declared.record.Item.{Item}
use Rattle.sa_spaces.specs.Workload.{WorkloadView}
use Rattle.sa_laws.specs.Event.{Event, items_of, events_of, event_of, before_events, is_of_event}
use Rattle.sa_laws.specs.Readings.{Readings, opening_readings}
use Rattle.sa_laws.specs.Upcalls.{RecordLaw, EachRecord}
use Rattle.sa_laws.specs.History.{after_event, event_begun}
use Rattle.sa_laws.specs.Rules.{UserRules, IsLawful}
use Rattle.sa_laws.specs.Legal.{IsLegal}
use Rattle.sa_histories.specs.Lawful.{AreLawful}
use Rattle.sa_histories.proofs.Legality.{lawful-along}
use Rattle.sa_histories.proofs.Walk.{Along, AllGood, IsKept, walk}

same-item : (x : Item) (e : Event) → is_of_event x e ≡ true → record { event = e.number; proc = e.proc; what = x.what } ≡ x
same-item x e is =
    let both = and_parts (x.event == e.number) (x.proc.0 == e.proc.0) is in
    let number : x.event ≡ e.number = eqb-true x.event e.number both.0 in
    let proc : x.proc.0 ≡ e.proc.0 = eqb-true x.proc.0 e.proc.0 both.1 in
    λ i. record { event = sym number i; proc = record { 0 = sym proc i }; what = x.what }

before-items : (x : Item) (e : Event) (es : List Event) (b : Bool) → is_of_event x e ≡ b
    → items_of (if b then record e { records = x.what ∷ e.records } ∷ es else event_of x ∷ e ∷ es) ≡ x ∷ items_of (e ∷ es)
before-items x e es true is = ap (λ y. y ∷ items_of (e ∷ es)) (same-item x e is)
before-items x e es false is = refl

pub items-before : (x : Item) (es : List Event) → items_of (before_events x es) ≡ x ∷ items_of es
items-before x [] = refl
items-before x (e ∷ es) = before-items x e es (is_of_event x e) refl

-- the items of a trace's history are the trace
pub items-events : (items : List Item) → items_of (events_of items) ≡ items
items-events [] = refl
items-events (x ∷ xs) = items-before x (events_of xs) ∙ ap (λ ys. x ∷ ys) (items-events xs)

-- a law of records that follows from the laws of events holds along a legal history
pub along : (u : UserRules) (w : WorkloadView) (L : ProcNo → RecordLaw)
    → ((r : Readings) (e : Event) → IsLawful u w r e → EachRecord (L e.proc) w e.number e.proc (event_begun w e r) e.records)
    → (r : Readings) (events : List Event) → AreLawful u w r events → Along u.inside w L r events
along u w L gives r [] all = tt
along u w L gives r (e ∷ es) all = (gives r e all.0, along u w L gives (after_event u.inside w r e) es all.1)

pub legal-lawful : (u : UserRules) (w : WorkloadView) (items : List Item) → IsLegal u w items → AreLawful u w (opening_readings w) (events_of items)
legal-lawful u w items legal = lawful-along u w (opening_readings w) (events_of items) legal.each

-- so what is kept by such a law is good at each place of a legal trace
pub good-at : (u : UserRules) (w : WorkloadView) (items : List Item) (L : ProcNo → RecordLaw) (Inv : List Item → Readings → Type 0)
    (Mid : ℕ → ProcNo → List Item → Readings → Type 0) (Good : List Item → Item → Type 0)
    → IsLegal u w items → IsKept u.inside w L Inv Mid Good
    → ((r : Readings) (e : Event) → IsLawful u w r e → EachRecord (L e.proc) w e.number e.proc (event_begun w e r) e.records)
    → Inv [] (opening_readings w) → (j : ℕ) (x : Item) → slice_get items j ≡ Some x → Good (take j items) x
good-at u w items L Inv Mid Good legal kept gives start j x at =
    let law = along u w L gives (opening_readings w) (events_of items) (legal-lawful u w items legal) in
    let all = (walk u.inside w L Inv Mid Good kept [] (opening_readings w) (events_of items) start law).1 in
    let all' : AllGood Good [] items = subst (λ ys. AllGood Good [] ys) (items-events items) all in
    all' j x at
