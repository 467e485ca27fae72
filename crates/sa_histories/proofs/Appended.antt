-- Records and events after others.
use Rattle.std.proofs.Common.{◌≡◌, ◌≢◌, ℕ, ◌+◌, ◌<◌, refl, sym, ◌∙◌, ap, subst, arith, List, [], ◌∷◌, ◌++◌}
use Rattle.std.specs.Prelude.{◌↔◌, ◌==◌, ◌&&◌, Bool, if◌then◌else◌}
use Rattle.std.proofs.lemmas.Bool.{eq-eqb}
use Rattle.sa_base.specs.declared.number.ProcNo.{ProcNo}
use Rattle.sa_base.specs.declared.record.Record.{Record}
use Rattle.sa_base.specs.declared.record.Item.{Item}
use Rattle.sa_base.specs.Items.{items_at}
use Rattle.sa_spaces.specs.Workload.{WorkloadView}
use Rattle.sa_laws.specs.Event.{Event, items_of, events_of, before_events, event_of}
use Rattle.sa_laws.specs.Readings.{Readings, opening_readings}
use Rattle.sa_laws.specs.Record.{after_record}
use Rattle.sa_laws.specs.History.{Test, after_records, after_event, after_events}
use Rattle.sa_laws.specs.Upcalls.{RecordLaw, EachRecord}
use Rattle.sa_laws.specs.Step.{AreSteps}
use Rattle.sa_laws.specs.Rules.{UserRules}
use Rattle.sa_laws.specs.Legal.{IsLegal, IsLegalHistory}
use Rattle.sa_histories.specs.Lawful.{AreLawful, AreNumbered}
use Rattle.sa_histories.proofs.Walk.{item}
use Rattle.sa_histories.proofs.Legality.{lawful-along, legal-along, not-equal}
use Rattle.sa_histories.proofs.Numbers.{number-next}
pub use Rattle.sa_laws.proofs.Records.{records-append}

pub events-append : (test : Test) (w : WorkloadView) (r : Readings) (es fs : List Event)
    → after_events test w r (es ++ fs) ≡ after_events test w (after_events test w r es) fs
events-append test w r [] fs = refl
events-append test w r (e ∷ es) fs = events-append test w (after_event test w r e) es fs

-- a law of each record holds of the first ones and of those after them
pub each-append : (L : RecordLaw) (w : WorkloadView) (e : ℕ) (p : ProcNo) (r : Readings) (xs ys : List Record)
    → ((x : Record) (rest : List Record) (s : Readings) → L s x rest → L s x (rest ++ ys))
    → EachRecord L w e p r xs → EachRecord L w e p (after_records w e p r xs) ys → EachRecord L w e p r (xs ++ ys)
each-append L w e p r [] ys widens left right = right
each-append L w e p r (x ∷ xs) ys widens left right =
    (widens x xs r left.0, each-append L w e p (after_record w e p r x) xs ys widens left.1 right)

pub steps-append : (w : WorkloadView) (e : ℕ) (p : ProcNo) (r : Readings) (xs ys : List Record)
    → AreSteps w e p r xs → AreSteps w e p (after_records w e p r xs) ys → AreSteps w e p r (xs ++ ys)
steps-append w e p r [] ys left right = right
steps-append w e p r (x ∷ xs) ys left right = (left.0, steps-append w e p (after_record w e p r x) xs ys left.1 right)

pub lawful-append : (u : UserRules) (w : WorkloadView) (r : Readings) (es fs : List Event) → AreLawful u w r es
    → AreLawful u w (after_events u.inside w r es) fs → AreLawful u w r (es ++ fs)
lawful-append u w r [] fs left right = right
lawful-append u w r (e ∷ es) fs left right = (left.0, lawful-append u w (after_event u.inside w r e) es fs left.1 right)

-- an item before the history of a later event, and before that of its own
before-later : (x : Item) (m : ℕ) (es : List Event) → x.event < m → AreNumbered m es → before_events x es ≡ event_of x ∷ es
before-later x m [] below numbered = refl
before-later x m (e ∷ es) below numbered =
    let number = numbered.0 in
    ap (λ b. if (b && x.proc.0 == e.proc.0) then record e { records = x.what ∷ e.records } ∷ es else event_of x ∷ e ∷ es)
    (not-equal x.event e.number (omega arith))

before-own : (n : ℕ) (p : ProcNo) (x : Record) (xs : List Record) (es : List Event)
    → before_events (item n p x) (record { number = n; proc = p; records = xs } ∷ es) ≡ record { number = n; proc = p; records = x ∷ xs } ∷ es
before-own n p x xs es =
    let own : Event = record { number = n; proc = p; records = xs } in
    let choose : Bool → List Event = λ b. if b then record { number = n; proc = p; records = x ∷ xs } ∷ es else event_of (item n p x) ∷ own ∷ es in
    ap choose (ap (λ b. b && (p.0 == p.0)) (eq-eqb n n refl) ∙ eq-eqb p.0 p.0 refl)

event-items : (n : ℕ) (p : ProcNo) (x : Record) (xs : List Record) (rest : List Item) (es : List Event) → events_of rest ≡ es → AreNumbered (n + 1) es
    → events_of (items_at n p (x ∷ xs) ++ rest) ≡ record { number = n; proc = p; records = x ∷ xs } ∷ es
event-items n p x [] rest es is numbered = ap (before_events (item n p x)) is ∙ before-later (item n p x) (n + 1) es (omega arith) numbered
event-items n p x (y ∷ ys) rest es is numbered = ap (before_events (item n p x)) (event-items n p y ys rest es is numbered) ∙ before-own n p x (y ∷ ys) es

-- the history of the items of numbered events are these events
pub events-items : (m : ℕ) (events : List Event) → AreNumbered m events → events_of (items_of events) ≡ events
events-items m [] numbered = refl
events-items m (e ∷ es) numbered = whole e.records refl (events-items (m + 1) es numbered.2) where
  whole : (xs : List Record) → e.records ≡ xs → events_of (items_of es) ≡ es → events_of (items_at e.number e.proc e.records ++ items_of es) ≡ e ∷ es
  whole [] none rest = absurd (numbered.1 none)
  whole (x ∷ xs) is rest =
      let later : AreNumbered (e.number + 1) es = subst (λ n. AreNumbered (n + 1) es) (sym numbered.0) numbered.2 in
      ap (λ ys. events_of (items_at e.number e.proc ys ++ items_of es)) is
      ∙ event-items e.number e.proc x xs (items_of es) es rest later
      ∙ ap (λ (ys : List Record). record { number = e.number; proc = e.proc; records = ys } ∷ es) (sym is)

pub lawful-numbered : (u : UserRules) (w : WorkloadView) (r : Readings) (events : List Event) → AreLawful u w r events → AreNumbered r.number events
lawful-numbered u w r [] law = tt
lawful-numbered u w r (e ∷ es) law = (
  law.0.numbered.number,
  law.0.numbered.some,
  subst (λ m. AreNumbered m es) (number-next u w r e) (lawful-numbered u w (after_event u.inside w r e) es law.1),
)

-- a legal history is that of a legal trace
pub legal-items : (u : UserRules) (w : WorkloadView) (events : List Event) → IsLegalHistory u w events → IsLegal u w (items_of events)
legal-items u w events legal =
    let numbered = lawful-numbered u w (opening_readings w) events (lawful-along u w (opening_readings w) events legal.each) in
    subst (λ es. IsLegalHistory u w es) (sym (events-items 0 events numbered)) legal

pub along-both : (u : UserRules) (w : WorkloadView) (events : List Event) → events ≢ []
    → (AreLawful u w (opening_readings w) events ↔ IsLegalHistory u w events)
along-both u w events some = (legal-along u w events some, λ legal. lawful-along u w (opening_readings w) events legal.each)
