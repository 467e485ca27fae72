-- Reading a list: an item at a place, the first items and those after them, a list of one value alone, and a list of lists that was mapped.
use Rattle.std.proofs.Common.{◌≡◌, ℕ, zero, suc, ◌<◌, ◌≤◌, Option, Some, None, List, [], ◌∷◌, length, drop, map, get_or, slice_get, inl, inr, refl, sym, ap, ◌∙◌, arith, ◌++◌, take}
use Rattle.std.specs.Prelude.{replicate, slice_index_or}
use Rattle.std.proofs.lemmas.Bool.{cases_lt}
use Rattle.std.proofs.lemmas.List.{get_or_past}
use Rattle.std.proofs.lemmas.Option.{same_Some, none-some}

-- within the list there is an item
pub read-at : {A : Type 0} (xs : List A) (i : ℕ) → i < length xs → (x : A) × (slice_get xs i ≡ Some x)
read-at [] i below = absurd (omega (arith, below))
read-at (x ∷ xs) zero below = (x, refl)
read-at (x ∷ xs) (suc i) below = read-at xs i (omega (arith, below))

-- a place that has a value is within the list
pub some-below : {A : Type 0} (xs : List (Option A)) (i : ℕ) (x : A) → slice_index_or xs i None ≡ Some x → i < length xs
some-below xs i x is = elim (cases_lt i (length xs)) [
  | inl less ↦ less
  | inr past ↦ absurd (none-some x (sym (get_or_past xs i None past) ∙ is))
]

-- a list without a first item is empty
pub empty-first : {A : Type 0} (xs : List A) → slice_get xs 0 ≡ None → xs ≡ []
empty-first [] is = refl
empty-first (x ∷ xs) is = absurd (cc)

-- a list is its first item, and the rest
pub first-rest : {A : Type 0} (xs : List A) (x : A) → slice_get xs 0 ≡ Some x → xs ≡ x ∷ drop 1 xs
first-rest [] x is = absurd (none-some x is)
first-rest (y ∷ xs) x is = ap (λ z. z ∷ xs) (same_Some y x is)

-- a list is its first two items, and the rest
pub two_first : {A : Type 0} (xs : List A) (a b : A) → 2 ≤ length xs → a ≡ get_or xs 0 a → b ≡ get_or xs 1 b → xs ≡ a ∷ b ∷ drop 2 xs
two_first [] a b two first second = absurd (omega arith)
two_first (x ∷ []) a b two first second = absurd (omega arith)
two_first (x ∷ y ∷ xs) a b two first second = ap (λ z. z ∷ y ∷ xs) (sym first) ∙ ap (λ z. a ∷ z ∷ xs) (sym second)

-- a list of one value alone, which is read with that value as the default
pub all-same : {A : Type 0} (n i : ℕ) (x : A) → get_or (replicate n x) i x ≡ x
all-same zero i x = refl
all-same (suc n) zero x = refl
all-same (suc n) (suc i) x = all-same n i x

-- a list of lists that was mapped by what leaves the empty list as it is
pub map-list : {A : Type 0} (f : List A → List A) (xs : List (List A)) (j : ℕ) → f [] ≡ [] → get_or (map f xs) j [] ≡ f (get_or xs j [])
map-list f [] j none = sym none
map-list f (x ∷ xs) zero none = refl
map-list f (x ∷ xs) (suc j) none = map-list f xs j none

-- the first items, and those after them, are the list
pub take_then_drop : {A : Type 0} (n : ℕ) (xs : List A) → take n xs ++ drop (length (take n xs)) xs ≡ xs
take_then_drop zero xs = refl
take_then_drop (suc n) [] = refl
take_then_drop (suc n) (x ∷ xs) = ap (λ ys. x ∷ ys) (take_then_drop n xs)
