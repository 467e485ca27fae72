-- Records one after another; and those that have no operation on lists.
use Rattle.std.proofs.Common.{◌≡◌, ℕ, Bool, true, false, List, [], ◌∷◌, ◌++◌, Some, None, refl, ap, sym, ◌∙◌, append-nil, append_assoc}
use Rattle.std.specs.List.{list_any}
use Rattle.sa_base.specs.Items.{items_at}
use Rattle.sa_base.specs.declared.number.ProcNo.{ProcNo}
use Rattle.sa_base.specs.declared.record.Item.{Item}
use Rattle.sa_base.specs.declared.record.Record.{Record}
use Rattle.sa_base.specs.declared.record.Record.TheVariants.{Up, Told, Move, Aim, Fetch}
use Rattle.sa_spaces.specs.Workload.{WorkloadView}
use Rattle.sa_laws.specs.Event.{Event, items_of}
use Rattle.sa_laws.specs.Readings.{Readings}
use Rattle.sa_laws.specs.Record.{after_record}
use Rattle.sa_laws.specs.History.{after_records}
use Rattle.sa_laws.specs.Turns.{is_of_locks, IsPassage, AreTold, IsFetchOrNothing}
use Rattle.sa_laws.specs.Locks.{StandsAlone}

-- what is read after some records and then others
pub records-append : (w : WorkloadView) (e : ℕ) (p : ProcNo) (r : Readings) (xs ys : List Record)
    → after_records w e p r (xs ++ ys) ≡ after_records w e p (after_records w e p r xs) ys
records-append w e p r [] ys = refl
records-append w e p r (x ∷ xs) ys = records-append w e p (after_record w e p r x) xs ys

-- records leave the number of the next event
pub number-kept : (w : WorkloadView) (e : ℕ) (p : ProcNo) (r : Readings) (xs : List Record) → (after_records w e p r xs).number ≡ r.number
number-kept w e p r [] = refl
number-kept w e p r (x ∷ xs) = number-kept w e p (after_record w e p r x) xs

-- the items of a history with one event more
pub items-push : (es : List Event) (e : Event) → items_of (es ++ e ∷ []) ≡ items_of es ++ items_at e.number e.proc e.records
items-push [] e = append-nil (items_at e.number e.proc e.records)
items-push (x ∷ es) e =
    ap (λ (xs : List Item). items_at x.number x.proc x.records ++ xs) (items-push es e)
    ∙ sym (append_assoc (items_at x.number x.proc x.records) (items_of es) (items_at e.number e.proc e.records))

-- a passage has no operation on lists
told-plain : (xs : List Record) → AreTold xs → list_any is_of_locks xs ≡ false
told-plain [] h = refl
told-plain (Told n ∷ xs) h = told-plain xs h
told-plain (x ∷ xs) h = absurd h

fetch-plain : (xs : List Record) → IsFetchOrNothing xs → list_any is_of_locks xs ≡ false
fetch-plain [] h = refl
fetch-plain (Fetch s ∷ []) h = refl
fetch-plain (x ∷ xs) h = absurd h

pub passage-plain : (xs : List Record) → IsPassage xs → list_any is_of_locks xs ≡ false
passage-plain (Up s a ∷ xs) h = told-plain xs h
passage-plain (Move old (Some new) ∷ Up s a ∷ xs) h = told-plain xs h
passage-plain (Move old None ∷ Aim p None ∷ xs) h = fetch-plain xs h
passage-plain xs h = absurd h

-- what has no operation on lists need not be alone
pub alone-plain : (b : Bool) (xs : List Record) → b ≡ false → StandsAlone b xs
alone-plain true xs e = absurd cc
alone-plain false xs e = tt
