-- A legal trace tells at most once.
use Rattle.std.proofs.Common.{subst, ◌≡◌, ℕ, zero, suc, ◌<◌, ◌≤◌, refl, sym, ◌∙◌, ap, arith, List, [], ◌∷◌, length, take}
use Rattle.std.specs.Prelude.{slice_get, slice_index_or, replicate, Contains}
use Rattle.std.proofs.lemmas.Option.{slice_get_within}
use Rattle.sa_base.specs.declared.number.SpaceNo.{SpaceNo}
use Rattle.sa_base.specs.declared.record.Note.{Note}
use Rattle.sa_base.specs.declared.record.Item.{Item}
use Rattle.sa_spaces.specs.Workload.{WorkloadView}
use Rattle.sa_laws.specs.Readings.{opening_readings}
use Rattle.sa_laws.specs.Upcalls.{TellsOnce}
use Rattle.sa_laws.specs.Rules.{UserRules}
use Rattle.sa_laws.specs.Legal.{IsLegal}
use Rattle.sa_promises.specs.Words.{StandsUntold}
use Rattle.sa_promises.specs.Headline.{TellsAtMostOnce}
use Rattle.sa_histories.proofs.Traces.{good-at, along, legal-lawful, items-events}
use Rattle.sa_histories.proofs.Walk.{walk}
use Rattle.sa_laws.specs.Event.{events_of}
use Rattle.sa_laws.specs.History.{readings}
use Rattle.sa_promises.proofs.words.Untold.{IsCovered, TellsUntold, tells-kept}

-- before a place of a list is what is there in the list
pub get-take : (items : List Item) (j k : ℕ) → k < j → slice_get (take j items) k ≡ slice_get items k
get-take [] zero k below = refl
get-take [] (suc j) k below = refl
get-take (x ∷ xs) zero k below = absurd (omega arith)
get-take (x ∷ xs) (suc j) zero below = refl
get-take (x ∷ xs) (suc j) (suc k) below = get-take xs j k (omega arith)

pub length-take_within : (items : List Item) (j : ℕ) → j ≤ length items → length (take j items) ≡ j
length-take_within [] zero within = refl
length-take_within [] (suc j) within = absurd (omega arith)
length-take_within (x ∷ xs) zero within = refl
length-take_within (x ∷ xs) (suc j) within = ap suc (length-take_within xs j (omega arith))

pub stands-within : (items : List Item) (j : ℕ) (s : SpaceNo) (n : Note) → j ≤ length items → StandsUntold (take j items) (length (take j items)) s n
    → StandsUntold items j s n
stands-within items j s n within o =
    let len = length-take_within items j within in
    let before = o.before in
    let below : o.place < j = omega arith in
    record {
      place = o.place;
      before = below;
      item = o.item;
      at = sym (get-take items j o.place below) ∙ o.at;
      notes = o.notes;
      untold = λ k x above under at. o.untold k x above (omega arith) (get-take items j k under ∙ at);
    }

no-notes : (n k : ℕ) (z : Note) → Contains (slice_index_or (replicate n []) k []) z → ⊥
no-notes zero k z has = let h = has in omega (arith, h.1)
no-notes (suc n) zero z has = let h = has in omega (arith, h.1)
no-notes (suc n) (suc k) z has = no-notes n k z has

pub covered-start : (w : WorkloadView) → IsCovered [] (opening_readings w)
covered-start w s n has = absurd (no-notes (length w.spaces) s.0 n has)

pub tells-at-most-once : (u : UserRules) (w : WorkloadView) (items : List Item) → IsLegal u w items → TellsAtMostOnce items
tells-at-most-once u w items legal j n stands other =
    let good = good-at u w items (λ p. TellsOnce) IsCovered (λ e p. IsCovered) TellsUntold legal (tells-kept u.inside w) (λ r e law. law.told_once.told)
    (covered-start w) j stands.item stands.at in
    let h = good n stands.what other in
    let within = slice_get_within items j stands.item stands.at in
    (h.0, stands-within items j h.0 n (omega arith) h.1)

-- all that is read as untold off a legal trace stands untold
pub covered-whole : (u : UserRules) (w : WorkloadView) (items : List Item) → IsLegal u w items → IsCovered items (readings u.inside w (events_of items))
covered-whole u w items legal =
    let law = along u w (λ p. TellsOnce) (λ r e lawful. lawful.told_once.told) (opening_readings w) (events_of items) (legal-lawful u w items legal) in
    let read = (walk u.inside w (λ p. TellsOnce) IsCovered (λ e p. IsCovered) TellsUntold (tells-kept u.inside w) [] (opening_readings w) (events_of items)
    (covered-start w) law).0 in
    subst (λ (ys : List Item). IsCovered ys (readings u.inside w (events_of items))) (items-events items) read
