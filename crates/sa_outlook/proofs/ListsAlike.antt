-- Two lists whose places are alike stay so where one place of both changes.
use Rattle.std.proofs.Common.{◌≡◌, ℕ, zero, suc, List, [], ◌∷◌, length, get_or, slice_set, arith}

pub each-set : {A B : Type 0} (R : ℕ → A → B → Type 0) (d : A) (z : B) (xs : List A) (ys : List B) (i : ℕ) (x : A) (y : B) → length xs ≡ length ys → R i x y
    → ((j : ℕ) → R j (get_or xs j d) (get_or ys j z)) → (j : ℕ) → R j (get_or (slice_set xs i x) j d) (get_or (slice_set ys i y) j z)
each-set R d z [] [] i x y size here each j = each j
each-set R d z (a ∷ xs) (b ∷ ys) zero x y size here each zero = here
each-set R d z (a ∷ xs) (b ∷ ys) zero x y size here each (suc j) = each (suc j)
each-set R d z (a ∷ xs) (b ∷ ys) (suc i) x y size here each zero = each zero
each-set R d z (a ∷ xs) (b ∷ ys) (suc i) x y size here each (suc j) =
    each-set (λ (n : ℕ). R (suc n)) d z xs ys i x y (omega (arith, size)) here (λ (n : ℕ). each (suc n)) j
each-set R d z _ _ i x y size here each j = absurd (omega arith)
