-- The bits of a test, and what a quiet kernel has not.
use Rattle.std.proofs.Common.{◌≡◌, ◌≢◌, ℕ, zero, suc, ◌<◌, ◌^◌, ◌↔◌, bit_or, Bool, true, false, ◌&&◌, cond, Option, Some, None, is_none, length, refl, sym, ap, ◌∙◌, inl, inr, arith}
use Rattle.std.specs.Int.{bit_at}
use Rattle.std.proofs.lemmas.Bool.{cases_eq, cases_lt, eqb-true, eq-eqb}
use Rattle.std.proofs.lemmas.Nat.{or_lt}
use Rattle.std.proofs.lemmas.Nat.Bits.{bit_at-pow_same, bit_at-pow_other, bit_at_above, bit_at_or}
use Rattle.std.proofs.lemmas.List.{get_or_past}
use Rattle.std.proofs.Math.Pow.{pow-lt}
use Rattle.std.proofs.lemmas.Option.{none-some}
use Rattle.sa_base.specs.declared.number.ProcNo.{ProcNo}
use Rattle.sa_base.specs.declared.number.SpaceNo.{SpaceNo}
use Rattle.sa_assign.specs.Aims.{is_aim}
use Rattle.sa_kernel_model.specs.State.{KernelState, owner_of, line_of}
use Rattle.sa_kernel_model.specs.Closing.{has_low_line}
use Rattle.sa_kernel_model.specs.Sound.{HasSizes}
use Rattle.sa_kernel_model.specs.Seen.{bits_where, low_of, IsLow}

-- a bit as a number
abbrev pub bit_of : Bool → ℕ
bit_of b = cond b 1 0

more-bits : (bits n : ℕ) (b : Bool) → bits < 2 ^ n → cond b (bit_or bits (2 ^ n)) bits < 2 ^ suc n
more-bits bits n true below =
    let more : 2 ^ n < 2 ^ suc n = pow-lt (omega arith) in
    let wider : bits < 2 ^ suc n = omega arith in
    or_lt (suc n) bits (2 ^ n) wider more
more-bits bits n false below = let more : 2 ^ n < 2 ^ suc n = pow-lt (omega arith) in omega arith

pub bits_where-lt : (test : ℕ → Bool) (n : ℕ) → bits_where test n < 2 ^ n
bits_where-lt test zero = omega arith
bits_where-lt test (suc n) = more-bits (bits_where test n) n (test n) (bits_where-lt test n)

-- the last bit, and one before it
last-bit : (bits n : ℕ) (b : Bool) → bits < 2 ^ n → bit_at (cond b (bit_or bits (2 ^ n)) bits) n ≡ bit_of b
last-bit bits n true below =
    let none = bit_at_above bits n n below (omega arith) in
    let one = bit_at-pow_same n in
    bit_at_or bits (2 ^ n) n ∙ omega arith
last-bit bits n false below = bit_at_above bits n n below (omega arith)

other-bit : (bits n q : ℕ) (b : Bool) → q ≢ n → bit_at (cond b (bit_or bits (2 ^ n)) bits) q ≡ bit_at bits q
other-bit bits n q true apart = let none = bit_at-pow_other n q apart in bit_at_or bits (2 ^ n) q ∙ omega arith
other-bit bits n q false apart = refl

-- bit q says that the test holds of q
pub bit_at-bits_where : (test : ℕ → Bool) (n q : ℕ) → q < n → bit_at (bits_where test n) q ≡ bit_of (test q)
bit_at-bits_where test zero q below = absurd (omega arith)
bit_at-bits_where test (suc n) q below = elim (cases_eq q n) [
  | inl same ↦
      ap (λ i. bit_at (bits_where test (suc n)) i) same
      ∙ last-bit (bits_where test n) n (test n) (bits_where-lt test n)
      ∙ ap (λ i. bit_of (test i)) (sym same)
  | inr apart ↦ other-bit (bits_where test n) n q (test n) apart ∙ bit_at-bits_where test n q (omega arith)
]

low-from : (s : SpaceNo) (owner : Option SpaceNo) (line : Option ℕ) → (is_aim s.0 owner && is_none line) ≡ true → (owner ≡ Some s) × (line ≡ None)
low-from s None line is = absurd cc
low-from s (Some t) None is = (ap (λ n. Some (record { 0 = n })) (eqb-true t.0 s.0 (and-true (is_aim s.0 (Some t)) is)), refl)
  where
    and-true : (b : Bool) → (b && true) ≡ true → b ≡ true
    and-true true h = refl
    and-true false h = absurd cc
low-from s (Some t) (Some e) is = absurd (and-false (is_aim s.0 (Some t)) is)
  where
    and-false : (b : Bool) → (b && false) ≡ true → ⊥
    and-false true h = cc
    and-false false h = cc

module _ {C : Type 0} where
  pub low-is : (k : KernelState C) (s : SpaceNo) (q : ProcNo) → has_low_line k s.0 q.0 ≡ true → IsLow k s q
  low-is k s q is = let h = low-from s (owner_of k q) (line_of k q) is in record { owner = h.0; line = h.1 }

  pub is-low : (k : KernelState C) (s : SpaceNo) (q : ProcNo) → IsLow k s q → has_low_line k s.0 q.0 ≡ true
  is-low k s q low =
      ap (λ (o : Option SpaceNo). is_aim s.0 o && is_none (line_of k q)) low.owner
      ∙ ap (λ (l : Option ℕ). is_aim s.0 (Some s) && is_none l) low.line
      ∙ ap (λ b. b && true) (eq-eqb s.0 s.0 refl)

  -- bit q of the low lines is 1 exactly where the space owns processor q, whose line is low
  pub low-bit : (k : KernelState C) (s : SpaceNo) (q : ProcNo) → HasSizes k → (bit_at (low_of k s) q.0 ≡ 1) ↔ IsLow k s q
  low-bit k s q sizes = elim (cases_lt q.0 (length k.lives)) [
    | inl below ↦
        let bit = bit_at-bits_where (has_low_line k s.0) (length k.lives) q.0 below in
        (λ is. low-is k s q (one-true (has_low_line k s.0 q.0) (sym bit ∙ is)), λ low. bit ∙ ap bit_of (is-low k s q low))
    | inr past ↦ (
      λ is. absurd (let none = bit_at_above (low_of k s) (length k.lives) q.0 (bits_where-lt (has_low_line k s.0) (length k.lives)) past in omega arith),
      λ low. absurd (none-some s (sym (get_or_past k.assign.owners q.0 None (let e = sizes.owners in omega arith)) ∙ low.owner)),
    )
  ]
    where
      one-true : (b : Bool) → bit_of b ≡ 1 → b ≡ true
      one-true true is = refl
      one-true false is = absurd (omega arith)
