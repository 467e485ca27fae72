-- Where a turn stands in the order of turns.
use Rattle.std.proofs.Common.{◌≡◌, ℕ, ◌+◌, ◌*◌, ◌<◌, ◌≤◌, ◌⊎◌, inl, inr, arith, sym, subst}
use Rattle.std.proofs.Math.Nat.{mul-le-mul_right}
use Rattle.std.proofs.lemmas.Bool.{cases_lt, cases_order}
use Rattle.sa_explore_model.specs.Search.{IsBefore}

-- the place of a turn
pub place-below : (processors j p k q : ℕ) → p < processors → q ≤ processors → IsBefore j p k q → j * processors + p < k * processors + q
place-below processors j p k q few most before =
    elim before [
      | inl lower ↦ (let most_below : (j + 1) * processors ≤ k * processors = mul-le-mul_right processors (omega arith) in omega arith)
      | inr one ↦ subst (λ (i : ℕ). j * processors + p < i * processors + q) one.0 (let less = one.1 in omega arith)
    ]

-- a turn comes before another one, or it does not
pub cases_before : (j p k q : ℕ) → IsBefore j p k q ⊎ IsBefore k q j (p + 1)
cases_before j p k q =
    elim (cases_order j k) [
      | inl same ↦ elim (cases_lt p q) [ inl less ↦ inl (inr (same, less)) | inr more ↦ inr (inr (sym same, omega arith)) ]
      | inr apart ↦ elim apart [ inl less ↦ inl (inl less) | inr more ↦ inr (inl more) ]
    ]

-- the next turn is that of the next processor
pub before-more : (j p k q : ℕ) → IsBefore j p k q → IsBefore j p k (q + 1)
before-more j p k q before = elim before [ inl lower ↦ inl lower | inr one ↦ inr (one.0, let less = one.1 in omega arith) ]

-- or of the next state
pub before-next : (j p k q : ℕ) → IsBefore j p k q → IsBefore j p (k + 1) 0
before-next j p k q before = elim before [ inl lower ↦ inl (omega arith) | inr one ↦ inl (let same = one.0 in omega arith) ]

-- what came before the next turn: what came before, or the last turn
pub cases_last : (j p k q : ℕ) → IsBefore j p k (q + 1) → IsBefore j p k q ⊎ ((j ≡ k) × (p ≡ q))
cases_last j p k q before =
    elim before [
      | inl lower ↦ inl (inl lower)
      | inr one ↦ elim (cases_lt p q) [ inl less ↦ inl (inr (one.0, less)) | inr more ↦ inr (one.0, let few = one.1 in omega arith) ]
    ]

pub cases_below : (j p k : ℕ) → IsBefore j p (k + 1) 0 → (j < k) ⊎ (j ≡ k)
cases_below j p k before =
    elim before [
      | inl lower ↦ elim (cases_lt j k) [ inl less ↦ inl less | inr more ↦ inr (omega arith) ]
      | inr one ↦ absurd (let none = one.1 in omega arith)
    ]
