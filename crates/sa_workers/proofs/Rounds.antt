-- The quota of a processor, and that the quotas add up to the budget.
use Rattle.std.proofs.Common.{◌≡◌, ℕ, zero, suc, ◌+◌, ◌-◌, ◌*◌, ◌/◌, ◌%◌, ◌<◌, ◌≤◌, ◌==◌, if◌then◌else◌, inl, inr, refl, sym, ap, ◌∙◌, arith}
use Rattle.std.specs.Prelude.{nat_lt}
use Rattle.std.proofs.Math.Nat.{zero-div, zero-mod}
use Rattle.std.proofs.lemmas.Nat.{div-mul-add, mod-mul-add, div-add-mod'}
use Rattle.std.proofs.lemmas.Bool.{cases_eq}
use Rattle.std.proofs.lemmas.Bool.Decides.{nat_tests}
use Rattle.sa_workers.specs.Quota.{quota_of}
use Rattle.sa_workers.proofs.Sums.{below, below-more, below-none, below-one}

-- the quotient and the remainder of the next number
next-within : (n w : ℕ) → n % w + 1 < w → ((n + 1) / w ≡ n / w) × ((n + 1) % w ≡ n % w + 1)
next-within n w within =
    let whole : n / w * w + (n % w + 1) ≡ n + 1 = (let h = div-add-mod' n w in omega (arith, h)) in
    (ap (λ i. i / w) (sym whole) ∙ div-mul-add (n / w) w (n % w + 1) within, ap (λ i. i % w) (sym whole) ∙ mod-mul-add (n / w) w (n % w + 1) within)

next-over : (n w : ℕ) → n % w + 1 ≡ w → ((n + 1) / w ≡ n / w + 1) × ((n + 1) % w ≡ 0)
next-over n w over =
    let some : 0 < w = omega (arith, over) in
    let whole : (n / w + 1) * w + 0 ≡ n + 1 = (let h = div-add-mod' n w in omega (arith, h, over)) in
    (ap (λ i. i / w) (sym whole) ∙ div-mul-add (n / w + 1) w 0 some, ap (λ i. i % w) (sym whole) ∙ mod-mul-add (n / w + 1) w 0 some)

-- whose turn the next event is
abbrev extra : ℕ → ℕ → ℕ
extra p r = if nat_lt p r then 1 else 0

abbrev one : ℕ → ℕ → ℕ
one r p = if r == p then 1 else 0

extra-next : (p r : ℕ) → extra p (r + 1) ≡ extra p r + one r p
extra-next p r = grind (arith, nat_tests)

extra-over : (p r w : ℕ) → p < w → r + 1 ≡ w → 1 ≡ extra p r + one r p
extra-over p r w within over = grind (arith, nat_tests)

extra-none : (p : ℕ) → extra p 0 ≡ 0
extra-none p = grind (arith, nat_tests)

next : (w p n : ℕ) → p < w → (n + 1) / w + extra p ((n + 1) % w) ≡ n / w + extra p (n % w) + one (n % w) p
next w p n within = elim (cases_eq (n % w + 1) w) [
  | inl over ↦ (
      let h = next-over n w over in
      let a = ap (extra p) h.1 ∙ extra-none p in
      let b = extra-over p (n % w) w within over in
      omega (arith, h.0, a, b))
  | inr apart ↦ (
      let h = next-within n w (omega (arith, apart, within)) in
      let a = ap (extra p) h.1 ∙ extra-next p (n % w) in
      omega (arith, h.0, a))
]

-- one for each whole round, and one more in a last round that came to this processor
pub quota-is : (w p n : ℕ) → p < w → n / w + (if nat_lt p (n % w) then 1 else 0) ≡ quota_of w p n
unfolding quota_of
quota-is w p zero within = (let h = zero-div w in let k = ap (extra p) (zero-mod w) ∙ extra-none p in omega (arith, h, k))
quota-is w p (suc n) within =
    let so_far = quota-is w p n within in
    let more = next w p n within in
    let now = ap (λ i. one (i % w) p) (let e : n + 1 - 1 ≡ n = omega arith in e) in
    let same : suc n ≡ n + 1 = omega arith in
    rw same (omega (arith, so_far, more, now))

pub quotas-add : (w n : ℕ) → 1 ≤ w → below (λ p. quota_of w p n) w ≡ n
unfolding quota_of
quotas-add w zero some = below-none (λ p. quota_of w p 0) w (λ p lt. refl)
quotas-add w (suc n) some =
    let turn = (n + 1 - 1) % w in
    let h = quotas-add w n some in
    let more = below-more (λ p. quota_of w p n) (one turn) w in
    let here = below-one (one turn) w turn (omega arith) (λ p apart. grind (arith, nat_tests)) in
    let is : one turn turn ≡ 1 = grind (arith, nat_tests) in
    omega (arith, h, more, here, is)
