-- Sums of a function below a number.
use Rattle.std.proofs.Common.{◌≡◌, ◌≢◌, ℕ, zero, suc, ◌+◌, ◌<◌, ◌≤◌, inl, inr, List, [], ◌∷◌, refl, sym, ap, arith}
use Rattle.std.specs.Prelude.{sum, slice_index_or}
use Rattle.std.proofs.lemmas.Bool.{cases_eq, cases_lt}
use Rattle.std.proofs.lemmas.List.Sums.{sum_by-cons}

abbrev pub below : (ℕ → ℕ) → ℕ → ℕ
below f zero = 0
below f (suc n) = below f n + f n

pub below-more : (f g : ℕ → ℕ) (n : ℕ) → below (λ k. f k + g k) n ≡ below f n + below g n
below-more f g zero = refl
below-more f g (suc n) = (let h = below-more f g n in omega (arith, h))

pub below-same : (f g : ℕ → ℕ) (n : ℕ) → ((k : ℕ) → k < n → f k ≡ g k) → below f n ≡ below g n
below-same f g zero same = refl
below-same f g (suc n) same =
    let h = below-same f g n (λ k lt. same k (omega arith)) in
    let here = same n (omega arith) in
    omega (arith, h, here)

pub below-none : (f : ℕ → ℕ) (n : ℕ) → ((k : ℕ) → k < n → f k ≡ 0) → below f n ≡ 0
below-none f zero none = refl
below-none f (suc n) none =
    let h = below-none f n (λ k lt. none k (omega arith)) in
    let here = none n (omega arith) in
    omega (arith, h, here)

-- what is at one place alone
pub below-one : (f : ℕ → ℕ) (n q : ℕ) → q < n → ((k : ℕ) → k ≢ q → f k ≡ 0) → below f n ≡ f q
below-one f zero q lt others = absurd (omega arith)
below-one f (suc n) q lt others = elim (cases_eq q n) [
  | inl here ↦ (
      let h = below-none f n (λ k small. others k (λ e. absurd (omega (arith, here, e, small)))) in
      let at : f q ≡ f n = ap f here in
      omega (arith, h, at))
  | inr apart ↦ (
      let h = below-one f n q (omega (arith, apart)) others in
      let none = others n (λ e. apart (sym e)) in
      omega (arith, h, none))
]

-- no more at any place and as much in all is as much at each place
pub below-le : (f g : ℕ → ℕ) (n : ℕ) → ((k : ℕ) → k < n → f k ≤ g k) → below f n ≤ below g n
below-le f g zero le = omega arith
below-le f g (suc n) le =
    let h = below-le f g n (λ k lt. le k (omega arith)) in
    let here = le n (omega arith) in
    omega (arith, h, here)

pub below-tight : (f g : ℕ → ℕ) (n : ℕ) → ((k : ℕ) → k < n → f k ≤ g k) → below f n ≡ below g n → (k : ℕ) → k < n → f k ≡ g k
below-tight f g zero le all k lt = absurd (omega arith)
below-tight f g (suc n) le all k lt =
    let rest = below-le f g n (λ i small. le i (omega arith)) in
    let here = le n (omega arith) in
    elim (cases_eq k n) [
      | inl at ↦ (
          let x : f k ≡ f n = ap f at in
          let y : g k ≡ g n = ap g at in
          omega (arith, rest, here, all, x, y))
      | inr apart ↦ below-tight f g n (λ i small. le i (omega arith)) (omega (arith, rest, here, all)) k (omega (arith, apart))
    ]

-- less in all is less at some place
pub below-less : (f g : ℕ → ℕ) (n : ℕ) → below f n < below g n → (k : ℕ) × (k < n) × (f k < g k)
below-less f g zero less = absurd (omega (arith, less))
below-less f g (suc n) less = elim (cases_lt (f n) (g n)) [
  | inl here ↦ (n, omega arith, here)
  | inr over ↦ (let rest = below-less f g n (omega (arith, less, over)) in (rest.0, (let lt = rest.1 in omega (arith, lt)), rest.2))
]

-- the sum of a list, of which nothing comes after some place
below-front : (f : ℕ → ℕ) (n : ℕ) → below f (suc n) ≡ f 0 + below (λ k. f (suc k)) n
below-front f zero = omega arith
below-front f (suc n) = (let h = below-front f n in omega (arith, h))

pub sum-below : (xs : List ℕ) (n : ℕ) → ((k : ℕ) → n ≤ k → slice_index_or xs k 0 ≡ 0) → sum xs ≡ below (λ k. slice_index_or xs k 0) n
sum-below [] n none = sym (below-none (λ k. slice_index_or [] k 0) n (λ k lt. refl))
sum-below (x ∷ xs) zero none =
    let here : x ≡ 0 = none 0 (omega arith) in
    let h = sum-below xs zero (λ k le. none (suc k) (omega arith)) in
    let more = sum_by-cons (λ (n : ℕ). n) x xs in
    omega (arith, here, h, more)
sum-below (x ∷ xs) (suc n) none =
    let h = sum-below xs n (λ k le. none (suc k) (omega arith)) in
    let front = below-front (λ k. slice_index_or (x ∷ xs) k 0) n in
    let more = sum_by-cons (λ (n : ℕ). n) x xs in
    omega (arith, h, front, more)
