-- The least number that passes a test, looked for from 0 on.
use Rattle.std.proofs.Common.{◌≡◌, ℕ, suc, ◌+◌, ◌≤◌, ◌<◌, Bool, true, false, cond, Option, Some, None, sym, ap, ◌∙◌, arith}
use Rattle.std.specs.Option.{option_or}
use Rattle.sa_assign.specs.Aims.{least_below}
use Rattle.sa_assign.proofs.ChoiceLemmas.{least_below-found}

-- one more fails
pub least-more : (n : ℕ) (test : ℕ → Bool) (b : Bool) → least_below n test ≡ None → b ≡ test n → b ≡ false → least_below (n + 1) test ≡ None
least-more n test b none is fails =
    let next : n + 1 ≡ suc n = omega arith in
    ap (λ (k : ℕ). least_below k test) next ∙ ap (λ before. option_or before (cond (test n) (Some n) None)) none
    ∙ ap (λ t. cond {A = Option ℕ} t (Some n) None) (sym is ∙ fails)

-- it passes
pub least-found : (n m : ℕ) (test : ℕ → Bool) (p : ℕ) (b : Bool) → least_below p test ≡ None → b ≡ test p → b ≡ true → p < m → m ≡ n
    → least_below n test ≡ Some p
least-found n m test p b none is passes below same = least_below-found n test p none (sym is ∙ passes) (omega arith)

-- all were looked at
pub least-none : (n m : ℕ) (test : ℕ → Bool) (p : ℕ) → least_below p test ≡ None → p ≤ m → m ≤ p → m ≡ n → least_below n test ≡ None
least-none n m test p none within past same = let all : n ≡ p = omega arith in ap (λ (k : ℕ). least_below k test) all ∙ none
