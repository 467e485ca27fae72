-- Numbers gone through in order.
use Rattle.std.proofs.Common.{◌≡◌, ℕ, suc, ◌+◌, ◌-◌, ◌<◌, List, [], ◌++◌, Option, Some, None, refl, ap, ◌∙◌, arith}
use Rattle.std.specs.Option.{option_or}
use Rattle.sa_waits.specs.Waits.{first_from, all_below}

next-from : {A : Type 0} (f : ℕ → Option A) (k n : ℕ) → first_from f k (suc n) ≡ option_or (f k) (first_from f (k + 1) n)
unfolding first_from
next-from f k n = refl

-- all that are left where the first has no answer
pub pass : {A : Type 0} (f : ℕ → Option A) (k n : ℕ) → k < n → f k ≡ None → first_from f k (n - k) ≡ first_from f (k + 1) (n - (k + 1))
pass f k n within none =
    let left : n - k ≡ suc (n - (k + 1)) = omega arith in
    ap (first_from f k) left ∙ next-from f k (n - (k + 1)) ∙ ap (λ o. option_or o (first_from f (k + 1) (n - (k + 1)))) none

-- and where it has one
pub found : {A : Type 0} (f : ℕ → Option A) (k n : ℕ) (x : A) → k < n → f k ≡ Some x → first_from f k (n - k) ≡ Some x
found f k n x within some =
    let left : n - k ≡ suc (n - (k + 1)) = omega arith in
    ap (first_from f k) left ∙ next-from f k (n - (k + 1)) ∙ ap (λ o. option_or o (first_from f (k + 1) (n - (k + 1)))) some

empty-from : {A : Type 0} (f : ℕ → Option A) (k : ℕ) → first_from f k 0 ≡ None
unfolding first_from
empty-from f k = refl

-- none is left
pub passed : {A : Type 0} (f : ℕ → Option A) (k n : ℕ) → n - k ≡ 0 → first_from f k (n - k) ≡ None
passed f k n none = ap (first_from f k) none ∙ empty-from f k

pub none-below : {A : Type 0} (f : ℕ → List A) → all_below f 0 ≡ []
unfolding all_below
none-below f = refl

more-below : {A : Type 0} (f : ℕ → List A) (n : ℕ) → all_below f (suc n) ≡ all_below f n ++ f n
unfolding all_below
more-below f n = refl

pub one-more : {A : Type 0} (f : ℕ → List A) (n : ℕ) → all_below f (n + 1) ≡ all_below f n ++ f n
one-more f n = ap (all_below f) (omega arith) ∙ more-below f n
