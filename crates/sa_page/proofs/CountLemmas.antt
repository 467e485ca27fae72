-- Sums of what comes of numbers, in order.
use Rattle.std.proofs.Common.{◌≡◌, ℕ, suc, ◌+◌, refl, sym, ap, ◌∙◌, arith}
use Rattle.sa_page.specs.Counts.{sum_below}

pub sum-none : (f : ℕ → ℕ) → sum_below f 0 ≡ 0
unfolding sum_below
sum-none f = refl

sum-more : (f : ℕ → ℕ) (n : ℕ) → sum_below f (suc n) ≡ sum_below f n + f n
unfolding sum_below
sum-more f n = refl

sum-next : (f : ℕ → ℕ) (n : ℕ) → sum_below f (n + 1) ≡ sum_below f n + f n
sum-next f n = ap (sum_below f) (omega arith) ∙ sum-more f n

-- one number more
pub sum-with : (f : ℕ → ℕ) (n k total next : ℕ) → total ≡ sum_below f n → f n ≡ k → next ≡ total + k → next ≡ sum_below f (n + 1)
sum-with f n k total next so is goes =
    goes ∙ ap (λ m. m + k) so ∙ ap (λ j. sum_below f n + j) (sym is) ∙ sym (sum-next f n)
