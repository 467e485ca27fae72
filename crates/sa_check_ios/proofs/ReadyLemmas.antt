-- The oldest and the newest of a list.
use Rattle.std.proofs.Common.{◌≡◌, ℕ, ◌+◌, ◌-◌, ◌<◌, Bool, true, false, List, [], ◌∷◌, ◌++◌, length, take, Some, refl, sym, ap, ◌∙◌, arith, inl, inr}
use Rattle.std.specs.Prelude.{filter, find, slice_get, slice_index_or}
use Rattle.std.proofs.lemmas.Bool.{cases_Bool, cond-true, cond-false}
use Rattle.std.proofs.lemmas.List.{length-append, append-nil, take_more}
use Rattle.std.proofs.lemmas.List.Elements.{filter-append}
use Rattle.sa_lemmas.proofs.ListUpdates.{slice_get-append_seam}
use Rattle.sa_laws.specs.Readings.{Listed}
use Rattle.sa_laws.specs.Locks.{newest, oldest}

pub oldest-filter : (p : Listed → Bool) (xs : List Listed) → oldest (filter p xs) ≡ find p xs
oldest-filter p [] = refl
oldest-filter p (x ∷ xs) = elim (cases_Bool (p x)) [
  | inl so ↦ ap oldest (cond-true (p x) (x ∷ filter p xs) (filter p xs) so) ∙ sym (cond-true (p x) (Some x) (find p xs) so)
  | inr other ↦ ap oldest (cond-false (p x) (x ∷ filter p xs) (filter p xs) other) ∙ oldest-filter p xs ∙ sym (cond-false (p x) (Some x) (find p xs) other)
]

pub newest-push : (xs : List Listed) (x : Listed) → newest (xs ++ x ∷ []) ≡ Some x
newest-push xs x =
    let size = length-append xs (x ∷ []) in
    let last : length (xs ++ x ∷ []) - 1 ≡ length xs = omega arith in
    ap (slice_get (xs ++ x ∷ [])) last ∙ slice_get-append_seam xs [] x

-- one more thread, which is in the list or in another
pub newest-here : (p : Listed → Bool) (xs : List Listed) (i : ℕ) (x : Listed) → i < length xs → slice_index_or xs i x ≡ x → p x ≡ true
    → newest (filter p (take (i + 1) xs)) ≡ Some x
newest-here p xs i x within is so =
    ap (λ ys. newest (filter p ys)) (take_more xs i x within ∙ ap (λ y. take i xs ++ y ∷ []) is)
    ∙ ap newest (filter-append p (take i xs) (x ∷ []) ∙ ap (λ ys. filter p (take i xs) ++ ys) (cond-true (p x) (x ∷ []) [] so))
    ∙ newest-push (filter p (take i xs)) x

pub newest-other : (p : Listed → Bool) (xs : List Listed) (i : ℕ) (x : Listed) → i < length xs → slice_index_or xs i x ≡ x → p x ≡ false
    → newest (filter p (take (i + 1) xs)) ≡ newest (filter p (take i xs))
newest-other p xs i x within is other =
    ap (λ ys. newest (filter p ys)) (take_more xs i x within ∙ ap (λ y. take i xs ++ y ∷ []) is)
    ∙ ap newest (filter-append p (take i xs) (x ∷ []) ∙ ap (λ ys. filter p (take i xs) ++ ys) (cond-false (p x) (x ∷ []) [] other)
    ∙ append-nil (filter p (take i xs)))
