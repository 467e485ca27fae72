-- The lists of numbers that are kept beside a table.
use Rattle.std.proofs.Common.{◌≡◌, ◌≢◌, ℕ, sym, ◌∙◌, ap, arith, not, ◌==◌, true, Bool, List}
use Rattle.std.specs.Prelude.{Contains, filter}
use Rattle.std.specs.Cmp.{nat_eq_equiv}
use Rattle.std.proofs.lemmas.Bool.Decides.{nat_tests}
use Rattle.std.proofs.lemmas.Map.Views.{Contains-from_any, list_any-from_Contains, any-filter_same, exact_unsigned_eq}

-- a number that a filter lets through stays
numbers-filter : (p : ℕ → Bool) (xs : List ℕ) (n : ℕ) → p n ≡ true → Contains xs n → Contains (filter p xs) n
numbers-filter p xs n is c =
    Contains-from_any exact_unsigned_eq n (filter p xs)
    (any-filter_same (λ k. n == k) p true (λ k t. ap p (sym (exact_unsigned_eq n k t)) ∙ is) xs
    ∙ list_any-from_Contains nat_eq_equiv n xs c)

-- where one number is removed, each other number stays
pub numbers-removed : (n k : ℕ) (xs : List ℕ) → k ≢ n → Contains xs k → Contains (filter (λ m. not (m == n)) xs) k
numbers-removed n k xs apart there = numbers-filter (λ m. not (m == n)) xs k (grind (arith, nat_tests)) there
