-- What is kept along a history: something of the items so far and what is read off them.
use Rattle.std.proofs.Common.{◌≡◌, ℕ, zero, suc, refl, sym, subst, Some, List, [], ◌∷◌, ◌++◌, take, append_assoc, append-nil}
use Rattle.std.specs.Prelude.{slice_get}
use Rattle.std.proofs.lemmas.Option.{same_Some, none-some}
use Rattle.sa_base.specs.declared.number.ProcNo.{ProcNo}
use Rattle.sa_base.specs.declared.record.Record.{Record}
use Rattle.sa_base.specs.declared.record.Item.{Item}
use Rattle.sa_base.specs.Items.{items_at}
use Rattle.sa_spaces.specs.Workload.{WorkloadView}
use Rattle.sa_laws.specs.Event.{Event, items_of}
use Rattle.sa_laws.specs.Readings.{Readings}
use Rattle.sa_laws.specs.Record.{after_record}
use Rattle.sa_laws.specs.History.{Test, event_begun, ended, after_records, after_event, after_events, behind_all}
use Rattle.sa_laws.specs.Upcalls.{RecordLaw, EachRecord}
use Rattle.sa_laws.specs.Rules.{UserRules, IsLawful}
use Rattle.sa_histories.specs.Lawful.{AreLawful}

abbrev pub item : ℕ → ProcNo → Record → Item
item e p x = record { event = e; proc = p; what = x }

-- it is kept from event to event; within an event a like thing, `Mid`, is kept by each record of which the law holds,
-- and moreover something good is so at it
pub record IsKept (test : Test) (w : WorkloadView) (L : ProcNo → RecordLaw) (Inv : List Item → Readings → Type 0)
    (Mid : ℕ → ProcNo → List Item → Readings → Type 0) (Good : List Item → Item → Type 0) : Type 0 where
  pub begins : (past : List Item) (r : Readings) (e : Event) → Inv past r → Mid e.number e.proc past (event_begun w e r)
  pub step : (e : ℕ) (p : ProcNo) (past : List Item) (r : Readings) (x : Record) (rest : List Record) → Mid e p past r → L p r x rest
      → Mid e p (past ++ item e p x ∷ []) (after_record w e p r x) × Good past (item e p x)
  pub ends : (past : List Item) (before : Readings) (e : Event) (r : Readings) → Mid e.number e.proc past r → Inv past (ended test w before e r)

-- something good is so at each of these items, after others
abbrev pub AllGood : (List Item → Item → Type 0) → List Item → List Item → Type 0
AllGood Good past items = (j : ℕ) (x : Item) → slice_get items j ≡ Some x → Good (past ++ take j items) x

good-nil : (Good : List Item → Item → Type 0) (past : List Item) → AllGood Good past []
good-nil Good past j x at = absurd (none-some x at)

good-cons : (Good : List Item → Item → Type 0) (past : List Item) (y : Item) (items : List Item) → Good past y → AllGood Good (past ++ y ∷ []) items
    → AllGood Good past (y ∷ items)
good-cons Good past y items here later zero x at =
    subst (λ past'. Good past' x) (sym (append-nil past)) (subst (λ z. Good past z) (same_Some y x at) here)
good-cons Good past y items here later (suc j) x at =
    subst (λ past'. Good past' x) (append_assoc past (y ∷ []) (take j items)) (later j x at)

good-append : (Good : List Item → Item → Type 0) (past xs ys : List Item) → AllGood Good past xs → AllGood Good (past ++ xs) ys
    → AllGood Good past (xs ++ ys)
good-append Good past [] ys left right = subst (λ past'. AllGood Good past' ys) (append-nil past) right
good-append Good past (x ∷ xs) ys left right = good-cons Good past x (xs ++ ys)
    (subst (λ past'. Good past' x) (append-nil past) (left 0 x refl))
    (good-append Good (past ++ x ∷ []) xs ys
    (λ j y at. subst (λ past'. Good past' y) (sym (append_assoc past (x ∷ []) (take j xs))) (left (suc j) y at))
    (subst (λ past'. AllGood Good past' ys) (sym (append_assoc past (x ∷ []) xs)) right))

pub walk-records : (test : Test) (w : WorkloadView) (L : ProcNo → RecordLaw) (Inv : List Item → Readings → Type 0)
    (Mid : ℕ → ProcNo → List Item → Readings → Type 0) (Good : List Item → Item → Type 0)
    → IsKept test w L Inv Mid Good → (e : ℕ) (p : ProcNo) (past : List Item) (r : Readings) (xs : List Record) → Mid e p past r → EachRecord (L p) w e p r xs
    → Mid e p (past ++ items_at e p xs) (after_records w e p r xs) × AllGood Good past (items_at e p xs)
walk-records test w L Inv Mid Good kept e p past r [] inv law = (subst (λ past'. Mid e p past' r) (sym (append-nil past)) inv, good-nil Good past)
walk-records test w L Inv Mid Good kept e p past r (x ∷ xs) inv law =
    let one = kept.step e p past r x xs inv law.0 in
    let more = walk-records test w L Inv Mid Good kept e p (past ++ item e p x ∷ []) (after_record w e p r x) xs one.0 law.1 in (
      subst (λ past'. Mid e p past' (after_records w e p (after_record w e p r x) xs)) (append_assoc past (item e p x ∷ []) (items_at e p xs)) more.0,
      good-cons Good past (item e p x) (items_at e p xs) one.1 more.1,
    )

-- the law holds of each record of these events
abbrev pub Along : Test → WorkloadView → (ProcNo → RecordLaw) → Readings → List Event → Type 0
Along test w L r [] = Unit {0}
Along test w L r (e ∷ es) = EachRecord (L e.proc) w e.number e.proc (event_begun w e r) e.records × Along test w L (after_event test w r e) es

pub walk : (test : Test) (w : WorkloadView) (L : ProcNo → RecordLaw) (Inv : List Item → Readings → Type 0)
    (Mid : ℕ → ProcNo → List Item → Readings → Type 0) (Good : List Item → Item → Type 0)
    → IsKept test w L Inv Mid Good → (past : List Item) (r : Readings) (events : List Event) → Inv past r → Along test w L r events
    → Inv (past ++ items_of events) (after_events test w r events) × AllGood Good past (items_of events)
walk test w L Inv Mid Good kept past r [] inv law = (subst (λ past'. Inv past' r) (sym (append-nil past)) inv, good-nil Good past)
walk test w L Inv Mid Good kept past r (e ∷ es) inv law =
    let one = walk-records test w L Inv Mid Good kept e.number e.proc past (event_begun w e r) e.records (kept.begins past r e inv) law.0 in
    let first = items_at e.number e.proc e.records in
    let more = walk test w L Inv Mid Good kept (past ++ first) (after_event test w r e) es (kept.ends (past ++ first) r e (behind_all w e r) one.0) law.1 in (
      subst (λ past'. Inv past' (after_events test w (after_event test w r e) es)) (append_assoc past first (items_of es)) more.0,
      good-append Good past first (items_of es) one.1 more.1,
    )

-- two laws of each record
pub each-both : (L M : RecordLaw) (w : WorkloadView) (e : ℕ) (p : ProcNo) (r : Readings) (xs : List Record) → EachRecord L w e p r xs
    → EachRecord M w e p r xs → EachRecord (λ r' x rest. L r' x rest × M r' x rest) w e p r xs
each-both L M w e p r [] left right = tt
each-both L M w e p r (x ∷ xs) left right = ((left.0, right.0), each-both L M w e p (after_record w e p r x) xs left.1 right.1)

-- something is so at the end of each of these events
abbrev pub AtEnds : (List Item → ℕ → Type 0) → List Item → List Event → Type 0
AtEnds E past [] = Unit {0}
AtEnds E past (e ∷ es) = E (past ++ items_at e.number e.proc e.records) e.number × AtEnds E (past ++ items_at e.number e.proc e.records) es

pub walk-ends : (u : UserRules) (w : WorkloadView) (L : ProcNo → RecordLaw) (Inv : List Item → Readings → Type 0)
    (Mid : ℕ → ProcNo → List Item → Readings → Type 0) (Good : List Item → Item → Type 0) (E : List Item → ℕ → Type 0)
    → IsKept u.inside w L Inv Mid Good
    → ((r : Readings) (e : Event) → IsLawful u w r e → EachRecord (L e.proc) w e.number e.proc (event_begun w e r) e.records)
    → ((past : List Item) (r : Readings) (e : Event) → IsLawful u w r e → Inv past (after_event u.inside w r e) → E past e.number)
    → (past : List Item) (r : Readings) (events : List Event) → Inv past r → AreLawful u w r events → AtEnds E past events
walk-ends u w L Inv Mid Good E kept gives close past r [] inv law = tt
walk-ends u w L Inv Mid Good E kept gives close past r (e ∷ es) inv law =
    let first = items_at e.number e.proc e.records in
    let one = walk-records u.inside w L Inv Mid Good kept e.number e.proc past (event_begun w e r) e.records (kept.begins past r e inv) (gives r e law.0) in
    let after = kept.ends (past ++ first) r e (behind_all w e r) one.0 in
    (close (past ++ first) r e law.0 after, walk-ends u w L Inv Mid Good E kept gives close (past ++ first) (after_event u.inside w r e) es after law.1)
