-- Evictions that rise, each above the one before, are in order throughout.
use Rattle.std.proofs.Common.{◌≡◌, ℕ, ◌+◌, ◌-◌, ◌<◌, zero, suc, List, length, get_or, arith, subst}
use Rattle.std.specs.List.{AllAdjacentBelow, AllPairs}
use Rattle.sa_spaces.specs.declared.workload.Evict.{Evict}
use Rattle.sa_spaces.specs.Workload.{IsBefore}

-- a relation that holds of each element and the next holds over a gap of n more
over_gap : {X : Type 0} (R : X → X → Type 0) → ((a b c : X) → R a b → R b c → R a c) → (xs : List X) (d : X)
    → AllAdjacentBelow R xs (length xs) → (i n j : ℕ) → i + n + 1 ≡ j → j < length xs → R (get_or xs i d) (get_or xs j d)
over_gap {X} R trans xs d next i zero j e h =
    let e' : i + 1 ≡ j = omega arith in
    subst (λ (k : ℕ). R (get_or xs i d) (get_or xs k d)) e' (next i d (omega arith))
over_gap {X} R trans xs d next i (suc n) j e h =
    let e' : i + n + 1 + 1 ≡ j = omega arith in
    let l : i + n + 1 + 1 < length xs = omega arith in
    subst (λ (k : ℕ). R (get_or xs i d) (get_or xs k d)) e'
    (trans _ _ _ (over_gap R trans xs d next i n (i + n + 1) (omega arith) (omega arith)) (next (i + n + 1) d l))

before_trans : (a b c : Evict) → IsBefore a b → IsBefore b c → IsBefore a c
before_trans a b c = grind arith

pub not_before_itself : (a : Evict) → IsBefore a a → ⊥
not_before_itself a = grind arith

pub in_order : (xs : List Evict) → AllAdjacentBelow IsBefore xs (length xs) → AllPairs IsBefore xs
in_order xs next = λ i j d below within.
    let n : ℕ = j - i - 1 in
    over_gap IsBefore before_trans xs d next i n j (omega arith) within
