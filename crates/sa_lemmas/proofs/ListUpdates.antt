-- A list that was updated at one place, or got one item more. Lemmas on `get_or`, two updates, the length and
-- `map` after an update are in `Rattle.std.proofs.lemmas.List`; those on sums and counts are in its `Sums`, and
-- those on folds over `++` in its `Sums` and `Folds`.
use Rattle.std.proofs.Common.{◌≡◌, ◌≢◌, ℕ, zero, suc, ◌<◌, Some, List, [], ◌∷◌, ◌++◌, length, slice_get, slice_set, set, take, drop, ◌⊎◌, inl, inr, refl, sym, ap, ◌∙◌, arith}
use Rattle.std.specs.List.{refill}
use Rattle.std.proofs.Math.Seq.{take-append_seam}
use Rattle.std.proofs.lemmas.List.{length-set}

-- an item after an update is the new one or an old one
pub slice_get-set_cases : {A : Type 0} (xs : List A) (i j : ℕ) (x y : A) → slice_get (slice_set xs i x) j ≡ Some y
    → ((j ≡ i) × (y ≡ x)) ⊎ ((j ≢ i) × (slice_get xs j ≡ Some y))
slice_get-set_cases [] i j x y is = inr (cc, is)
slice_get-set_cases (z ∷ xs) zero zero x y is = inl (refl, cc)
slice_get-set_cases (z ∷ xs) zero (suc j) x y is = inr ((λ e. cc), is)
slice_get-set_cases (z ∷ xs) (suc i) zero x y is = inr ((λ e. cc), is)
slice_get-set_cases (z ∷ xs) (suc i) (suc j) x y is = elim (slice_get-set_cases xs i j x y is) [
  | inl at ↦ inl (ap suc at.0, at.1)
  | inr other ↦ inr ((λ e. other.0 cc), other.1)
]

-- the items of a list keep their places where others come after them
pub slice_get-append_left : {A : Type 0} (xs ys : List A) (i : ℕ) → i < length xs → slice_get (xs ++ ys) i ≡ slice_get xs i
slice_get-append_left [] ys i within = absurd (omega arith)
slice_get-append_left (x ∷ xs) ys zero within = refl
slice_get-append_left (x ∷ xs) ys (suc i) within = slice_get-append_left xs ys i (omega arith)

-- the first of those others is at the length of the list
pub slice_get-append_seam : {A : Type 0} (xs ys : List A) (x : A) → slice_get (xs ++ x ∷ ys) (length xs) ≡ Some x
slice_get-append_seam [] ys x = refl
slice_get-append_seam (y ∷ xs) ys x = slice_get-append_seam xs ys x

-- an item after a push is the new one, at the end, or an old one
pub slice_get-push_cases : {A : Type 0} (xs : List A) (i : ℕ) (x y : A) → slice_get (xs ++ x ∷ []) i ≡ Some y
    → ((i ≡ length xs) × (y ≡ x)) ⊎ (slice_get xs i ≡ Some y)
slice_get-push_cases [] zero x y is = inl (refl, cc)
slice_get-push_cases [] (suc i) x y is = inr is
slice_get-push_cases (z ∷ xs) zero x y is = inr is
slice_get-push_cases (z ∷ xs) (suc i) x y is = elim (slice_get-push_cases xs i x y is) [
  | inl at ↦ inl (ap suc at.0, at.1)
  | inr old ↦ inr old
]

-- a list of as many items is written back whole, and so is one with another item at a place
pub refill-whole : {A : Type 0} (xs ws : List A) → length ws ≡ length xs → refill (length xs) xs ws ≡ ws
refill-whole xs ws same = ap (λ n. take n (ws ++ drop (length ws) xs)) (sym same) ∙ take-append_seam ws (drop (length ws) xs)

pub refill-set : {A : Type 0} (xs now : List A) (i p : ℕ) (x : A) → now ≡ xs → i ≡ p → refill (length xs) xs (set now i x) ≡ set xs p x
refill-set xs now i p x is at =
    ap (λ ys. refill (length xs) xs (set ys i x)) is ∙ ap (λ k. refill (length xs) xs (set xs k x)) at ∙ refill-whole xs (set xs p x) (length-set xs p x)
