-- The places of an event, and the moments there.
use Rattle.std.proofs.Common.{◌≡◌, ◌≢◌, ◌↔◌, ℕ, ◌+◌, ◌<◌, refl, sym, ◌∙◌, ap, subst, inl, inr, arith, List, [], ◌∷◌, length, take, Bool}
use Rattle.std.specs.Prelude.{IsTrue, not, take_while}
use Rattle.std.proofs.lemmas.Bool.{cases_eq}
use Rattle.std.proofs.lemmas.List.Folds.{length-prefix_len}
use Rattle.sa_base.specs.declared.record.Record.{Record}
use Rattle.sa_assign.proofs.AimLemmas.{none-missing}
use Rattle.sa_laws.specs.Event.{Event}
use Rattle.sa_laws.specs.Closing.{shares_at}
use Rattle.sa_laws.specs.Shape.{aims_in, before_aims, before_wants, own_part, is_no_aim, is_no_want, is_own}
use Rattle.sa_check_moment.specs.Seen.{Seen}
use Rattle.sa_check.specs.Places.{AimsAreDue, HasShares, FoundAt}
use Rattle.sa_check.proofs.FoundLemmas.{nothing-found, something-found}

take-run : (test : Record → Bool) (xs : List Record) → take (length (take_while test xs)) xs ≡ take_while test xs
take-run test xs = ap (λ n. take n xs) (length-prefix_len test xs)

pub take-before-wants : (xs : List Record) → take (length (before_wants xs)) xs ≡ before_wants xs
take-before-wants [] = refl
take-before-wants (x ∷ xs) = ap (λ ys. x ∷ ys) (take-run is_no_want xs)

pub take-before-aims : (xs : List Record) → take (length (before_aims xs)) xs ≡ before_aims xs
take-before-aims xs = take-run is_no_aim xs

pub take-own : (xs : List Record) → take (length (own_part xs)) xs ≡ own_part xs
take-own [] = refl
take-own (x ∷ xs) = ap (λ ys. x ∷ ys) (take-run is_own xs)

-- where each space has its share of aims, none is due
pub aims-when-covered : (m : Seen) (e : Event) (has : Bool) → (IsTrue has ↔ (aims_in e.records ≢ [])) → HasShares m e.number → IsTrue (not has) ↔ AimsAreDue m e
aims-when-covered m e has is covered =
    let none = none-missing 0 (length m.workload.spaces) (shares_at m.workload e.number m.readings) m.readings.marks m.readings.aims covered in (
      λ yes. record { due = nothing-found (aims_in e.records) has is yes ∙ sym none },
      λ aims. something-found (aims_in e.records) has is (aims.due ∙ none),
    )

-- what was found at its place stays found after it
pub found-behind : (due place : ℕ) (before now : Bool) (P Q : Type 0) → FoundAt due place P before now → (place ≡ due → (P ↔ Q))
    → (due < place → (IsTrue before ↔ Q)) → due < place + 1 → (IsTrue now ↔ Q)
found-behind due place before now P Q at same old behind = elim (cases_eq place due) [
  | inl here ↦
      let now_is = at.here here in
      let is = same here in
      (λ yes. is.0 (now_is.0 yes), λ q. now_is.1 (is.1 q))
  | inr other ↦ subst (λ b. IsTrue b ↔ Q) (sym (at.other other)) (old (omega arith))
]
