-- The processors whose lines are low, from bit to bit.
use Rattle.std.proofs.Common.{◌≡◌, ℕ, zero, suc, ◌+◌, ◌-◌, ◌/◌, ◌%◌, ◌<◌, ◌≤◌, ◌^◌, Option, None, if◌then◌else◌, eqb, sym, ap, ◌∙◌, arith, inl, inr}
use Rattle.std.specs.Int.{bit_at, trailing_zeros, w32}
use Rattle.std.specs.Int.Count.{trailing_of_zero}
use Rattle.std.proofs.lemmas.Nat.{shr_le, shr-shr}
use Rattle.std.proofs.lemmas.Nat.Bits.{bit_at-zero, bit_at-trailing_zeros}
use Rattle.std.proofs.lemmas.Bool.{cases_lt}
use Rattle.sa_base.specs.declared.context.Seen.{Seen}
use Rattle.sa_prio_model.specs.declared.pair.Outranked.{Outranked}
use Rattle.sa_prio_model.specs.Prio.{Prio, on_at, rank_below, outranked_on, lower, lowest_below}

-- a processor whose line is not low is in no pair
none_on : (v : Prio) (seen : Seen) (best q : ℕ) → bit_at seen.low q ≡ 0 → outranked_on v seen best q ≡ None
none_on v seen best q high = ap (λ n. if eqb n 1 then rank_below v.base best (on_at v q) else None) high

-- the processors between two, where no line is low, change nothing
pub lowest-between : (v : Prio) (seen : Seen) (best a b : ℕ) → a ≤ b → ((q : ℕ) → a ≤ q → q < b → bit_at seen.low q ≡ 0)
    → lowest_below v seen best b ≡ lowest_below v seen best a
lowest-between v seen best a zero up high = let same : 0 ≡ a = omega arith in ap (lowest_below v seen best) same
lowest-between v seen best a (suc b) up high = elim (cases_lt a (suc b)) [
  | inl below ↦
      ap (lower (lowest_below v seen best b) b) (none_on v seen best b (high b (omega arith) (omega arith)))
      ∙ lowest-between v seen best a b (omega arith) (λ q from before. high q from (omega arith))
  | inr past ↦ let same : suc b ≡ a = omega arith in ap (lowest_below v seen best) same
]

-- nor does anything but the thread on the first of them whose line is low
pub lowest-next : (v : Prio) (seen : Seen) (best from q : ℕ) (found : Option Outranked) (rank : Option ℕ) → from ≤ q → bit_at seen.low q ≡ 1
    → ((i : ℕ) → from ≤ i → i < q → bit_at seen.low i ≡ 0) → found ≡ lowest_below v seen best from → rank ≡ rank_below v.base best (on_at v q)
    → lower found q rank ≡ lowest_below v seen best (q + 1)
lowest-next v seen best from q found rank behind low high before is =
    let there : outranked_on v seen best q ≡ rank_below v.base best (on_at v q) =
    ap (λ n. if eqb n 1 then rank_below v.base best (on_at v q) else None) low in
    let after : suc q ≡ q + 1 = omega arith in
    ap (λ x. lower x q rank) (before ∙ sym (lowest-between v seen best from q behind high))
    ∙ ap (lower (lowest_below v seen best q) q) (is ∙ sym there) ∙ ap (lowest_below v seen best) after

-- a bit of a number that was shifted
shifted-bit : (n k i : ℕ) → k ≤ i → bit_at (n / 2 ^ k) (i - k) ≡ bit_at n i
shifted-bit n k i from = let same : k + (i - k) ≡ i = omega arith in ap (λ x. x % 2) (shr-shr n k (i - k)) ∙ ap (bit_at n) same

module _ (low wide from : ℕ) (few : low < 2 ^ 16) (same : wide ≡ low) where
  abbrev rest : ℕ
  rest = wide / 2 ^ from

  abbrev zeros : ℕ
  zeros = trailing_zeros w32 rest

  small : rest < 2 ^ 32
  small = omega (arith, shr_le wide from, same, few)

  -- where a bit is set from `from` on, the first is behind the zeros
  pub first-is-low : zeros < 32 → bit_at low (from + zeros) ≡ 1
  first-is-low within = ap (λ n. bit_at n (from + zeros)) (sym same) ∙ elim (cases_lt 0 rest) [
    | inl some ↦
        let place : from + zeros - from ≡ zeros = omega arith in
        sym (shifted-bit wide from (from + zeros) (omega arith)) ∙ ap (bit_at rest) place ∙ (bit_at-trailing_zeros w32 rest some small).1
    | inr none ↦
        let zero : rest ≡ 0 = omega arith in
        let all : zeros ≡ 32 = ap (trailing_zeros w32) zero ∙ trailing_of_zero 32 in omega (arith, all, within)
  ]

  -- and none before it is
  pub none-before : (q : ℕ) → from ≤ q → q < from + zeros → bit_at low q ≡ 0
  none-before q behind before = ap (λ n. bit_at n q) (sym same) ∙ sym (shifted-bit wide from q behind) ∙ elim (cases_lt 0 rest) [
    | inl some ↦ (bit_at-trailing_zeros w32 rest some small).2 (q - from) (omega arith)
    | inr none ↦ let zero : rest ≡ 0 = omega arith in ap (λ n. bit_at n (q - from)) zero ∙ bit_at-zero (q - from)
  ]
