-- Ranks as bits of words.
use Rattle.std.proofs.Common.{◌≡◌, ◌≢◌, ℕ, suc, ◌+◌, ◌-◌, ◌*◌, ◌/◌, ◌%◌, ◌^◌, ◌<◌, ◌≤◌, Bool, true, false, cond, eqb, List, length, Some, slice_index, slice_set, bit_and, bit_or, w64, refl, sym, ap, ◌∙◌, subst, inl, inr, arith}
use Rattle.std.specs.Int.{bit_at, bit_not, leading_zeros, trailing_zeros}
use Rattle.std.proofs.lemmas.Bool.{cases_eq, cases_lt, eq-eqb, ne_eqb}
use Rattle.std.proofs.lemmas.Nat.{leading_top}
use Rattle.std.proofs.lemmas.Nat.Bits.{bit_at-zero, bit_at-lt, bit_at-pow_same, bit_at-pow_other, bit_at_above, bit_at_and, bit_at_or, bit_at_not, bit_at-trailing_zeros}
use Rattle.std.proofs.lemmas.List.{get_or-set_other, get_or-set_same}
use Rattle.std.proofs.Math.Pow.{pow-lt}
use Rattle.std.proofs.Math.Nat.{div-eq_of_lt-le, mod-eq_of_lt, two-pow-succ}
use Rattle.sa_lists.specs.RankSet.{has, HasPut, IsGreatest, IsLeast}

-- a rank is its word's and its bit's
apart_in_word : (k rank : ℕ) → k / 64 ≡ rank / 64 → k ≢ rank → k % 64 ≢ rank % 64
apart_in_word k rank same ne = λ e. ne (omega (arith, same, e))

-- what is put for a rank, and for another one
same_one : (k rank : ℕ) (is_in was : Bool) → k ≡ rank → cond (eqb k rank) is_in was ≡ is_in
same_one k rank is_in was e = ap (λ b. cond b is_in was) (eq-eqb k rank e)

other : (k rank : ℕ) (is_in was : Bool) → k ≢ rank → was ≡ cond (eqb k rank) is_in was
other k rank is_in was ne = sym (ap (λ b. cond b is_in was) (ne_eqb k rank ne))

-- with one bit more, and with one bit less
pub with_bit : (words : List ℕ) (rank : ℕ) → rank / 64 < length words
    → HasPut words rank true (slice_set words (rank / 64) (bit_or (slice_index words (rank / 64)) (2 ^ (rank % 64))))
with_bit words rank inside k =
    let word = slice_index words (rank / 64) in
    let new = bit_or word (2 ^ (rank % 64)) in
    elim (cases_eq (k / 64) (rank / 64)) [
      | inr ne ↦
          ap (λ w. eqb (bit_at w (k % 64)) 1) (get_or-set_other words (rank / 64) (k / 64) new 0 ne)
          ∙ other k rank true (has words k) (λ e. ne (ap (λ n. n / 64) e))
      | inl same ↦
          let here : slice_index (slice_set words (rank / 64) new) (k / 64) ≡ new =
          ap (slice_index (slice_set words (rank / 64) new)) same ∙ get_or-set_same words (rank / 64) new 0 inside in
          let was : slice_index words (k / 64) ≡ word = ap (slice_index words) same in
          ap (λ w. eqb (bit_at w (k % 64)) 1) here
          ∙ elim (cases_eq k rank) [
            | inl e ↦
                let one : bit_at (2 ^ (rank % 64)) (k % 64) ≡ 1 = ap (λ n. bit_at (2 ^ (rank % 64)) (n % 64)) e ∙ bit_at-pow_same (rank % 64) in
                let few = bit_at-lt word (k % 64) in
                let bit : bit_at new (k % 64) ≡ 1 = bit_at_or word (2 ^ (rank % 64)) (k % 64) ∙ omega arith in
                ap (λ b. eqb b 1) bit ∙ sym (same_one k rank true (has words k) e)
            | inr ne ↦
                let none : bit_at (2 ^ (rank % 64)) (k % 64) ≡ 0 = bit_at-pow_other (rank % 64) (k % 64) (apart_in_word k rank same ne) in
                let bit : bit_at new (k % 64) ≡ bit_at word (k % 64) = bit_at_or word (2 ^ (rank % 64)) (k % 64) ∙ omega arith in
                ap (λ b. eqb b 1) bit ∙ ap (λ w. eqb (bit_at w (k % 64)) 1) (sym was) ∙ other k rank true (has words k) ne
          ]
    ]

pub without_bit : (words : List ℕ) (rank : ℕ) → rank / 64 < length words
    → HasPut words rank false (slice_set words (rank / 64) (bit_and (slice_index words (rank / 64)) (bit_not w64 (2 ^ (rank % 64)))))
without_bit words rank inside k =
    let word = slice_index words (rank / 64) in
    let few : rank % 64 < 64 = omega arith in
    let power : 2 ^ (rank % 64) < 2 ^ 64 = pow-lt few in
    let new = bit_and word (bit_not w64 (2 ^ (rank % 64))) in
    let mask = bit_at_not w64 (2 ^ (rank % 64)) (k % 64) power (omega arith) in
    elim (cases_eq (k / 64) (rank / 64)) [
      | inr ne ↦
          ap (λ w. eqb (bit_at w (k % 64)) 1) (get_or-set_other words (rank / 64) (k / 64) new 0 ne)
          ∙ other k rank false (has words k) (λ e. ne (ap (λ n. n / 64) e))
      | inl same ↦
          let here : slice_index (slice_set words (rank / 64) new) (k / 64) ≡ new =
          ap (slice_index (slice_set words (rank / 64) new)) same ∙ get_or-set_same words (rank / 64) new 0 inside in
          let was : slice_index words (k / 64) ≡ word = ap (slice_index words) same in
          ap (λ w. eqb (bit_at w (k % 64)) 1) here
          ∙ elim (cases_eq k rank) [
            | inl e ↦
                let one : bit_at (2 ^ (rank % 64)) (k % 64) ≡ 1 = ap (λ n. bit_at (2 ^ (rank % 64)) (n % 64)) e ∙ bit_at-pow_same (rank % 64) in
                let bit : bit_at new (k % 64) ≡ 0 = bit_at_and word (bit_not w64 (2 ^ (rank % 64))) (k % 64) ∙ omega arith in
                ap (λ b. eqb b 1) bit ∙ sym (same_one k rank false (has words k) e)
            | inr ne ↦
                let none : bit_at (2 ^ (rank % 64)) (k % 64) ≡ 0 = bit_at-pow_other (rank % 64) (k % 64) (apart_in_word k rank same ne) in
                let less = bit_at-lt word (k % 64) in
                let bit : bit_at new (k % 64) ≡ bit_at word (k % 64) = bit_at_and word (bit_not w64 (2 ^ (rank % 64))) (k % 64) ∙ omega arith in
                ap (λ b. eqb b 1) bit ∙ ap (λ w. eqb (bit_at w (k % 64)) 1) (sym was) ∙ other k rank false (has words k) ne
          ]
    ]

-- the bit of a rank in its word, as a shift makes it
pub shifted : (rank : ℕ) → 1 * 2 ^ (rank % 64) % 18446744073709551616 ≡ 2 ^ (rank % 64)
shifted rank =
    let few : rank % 64 < 64 = omega arith in
    let power : 2 ^ (rank % 64) < 2 ^ 64 = pow-lt few in
    ap (λ n. n % 18446744073709551616) (one_times (2 ^ (rank % 64))) ∙ mod-eq_of_lt power
  where
    one_times : (n : ℕ) → 1 * n ≡ n
    one_times n = omega arith

-- a rank is put into the set or taken out by its word
pub put_in : (words : List ℕ) (rank at word : ℕ) (is_in : Bool) → rank / 64 < length words → at ≡ rank / 64 → is_in ≡ true
    → word ≡ bit_or (slice_index words at) (1 * 2 ^ (rank % 64) % 18446744073709551616) → HasPut words rank is_in (slice_set words at word)
put_in words rank at word is_in inside place e new =
    let same : word ≡ bit_or (slice_index words (rank / 64)) (2 ^ (rank % 64)) =
    new ∙ ap (λ n. bit_or (slice_index words n) (1 * 2 ^ (rank % 64) % 18446744073709551616)) place
    ∙ ap (bit_or (slice_index words (rank / 64))) (shifted rank) in
    subst (λ b. HasPut words rank b (slice_set words at word)) (sym e)
    (subst (λ ws. HasPut words rank true ws) (sym (ap (λ n. slice_set words n word) place ∙ ap (slice_set words (rank / 64)) same))
    (with_bit words rank inside))

pub take_out : (words : List ℕ) (rank at word : ℕ) (is_in : Bool) → rank / 64 < length words → at ≡ rank / 64 → is_in ≡ false
    → word ≡ bit_and (slice_index words at) (18446744073709551615 - 1 * 2 ^ (rank % 64) % 18446744073709551616)
    → HasPut words rank is_in (slice_set words at word)
take_out words rank at word is_in inside place e new =
    let same : word ≡ bit_and (slice_index words (rank / 64)) (bit_not w64 (2 ^ (rank % 64))) =
    new ∙ ap (λ n. bit_and (slice_index words n) (18446744073709551615 - 1 * 2 ^ (rank % 64) % 18446744073709551616)) place
    ∙ ap (λ bit. bit_and (slice_index words (rank / 64)) (18446744073709551615 - bit)) (shifted rank) in
    subst (λ b. HasPut words rank b (slice_set words at word)) (sym e)
    (subst (λ ws. HasPut words rank false ws) (sym (ap (λ n. slice_set words n word) place ∙ ap (slice_set words (rank / 64)) same))
    (without_bit words rank inside))

-- a word of 0 has no rank
pub none_in_word : (words : List ℕ) (k : ℕ) → slice_index words (k / 64) ≡ 0 → has words k ≡ false
none_in_word words k e = ap (λ w. eqb (bit_at w (k % 64)) 1) e ∙ ap (λ b. eqb b 1) (bit_at-zero (k % 64))

-- bit i of word n is rank 64 n + i
has_at : (words : List ℕ) (n i k : ℕ) → i < 64 → k ≡ n * 64 + i → has words k ≡ eqb (bit_at (slice_index words n) i) 1
has_at words n i k small e =
    let word : k / 64 ≡ n = omega arith in
    let bit : k % 64 ≡ i = omega arith in
    ap (λ m. eqb (bit_at (slice_index words m) (k % 64)) 1) word ∙ ap (λ j. eqb (bit_at (slice_index words n) j) 1) bit

-- the greatest and the least, where the words after or before are 0
pub greatest_is : (words : List ℕ) (n : ℕ) → n < 4 → slice_index words n ≢ 0 → slice_index words n < 2 ^ 64 → ((i : ℕ) → n < i → slice_index words i ≡ 0)
    → IsGreatest words (Some (n * 64 + (63 - leading_zeros w64 (slice_index words n))))
greatest_is words n few some fits behind =
    let word = slice_index words n in
    let top = leading_top 64 word (omega (arith, some)) fits in
    let j = top.0 in
    let place : 63 - leading_zeros w64 word ≡ j = omega (arith, top.1) in
    let small : j < 64 = omega (arith, top.1) in
    let low : bit_at word j ≡ 1 = top_bit word j top.2 top.3 in
    let at : n * 64 + (63 - leading_zeros w64 word) ≡ n * 64 + j = ap (λ i. n * 64 + i) place in
    subst (λ g. IsGreatest words (Some g)) (sym at) (
      omega arith,
      has_at words n j (n * 64 + j) small refl ∙ ap (λ b. eqb b 1) low,
      λ k more. elim (cases_lt n (k / 64)) [
        | inl later ↦ none_in_word words k (behind (k / 64) later)
        | inr later_not ↦
            let same : k / 64 ≡ n = omega arith in
            has_at words n (k % 64) k (omega arith) (omega arith)
            ∙ ap (λ b. eqb b 1) (bit_at_above word (suc j) (k % 64) top.3 (omega arith))
      ],
    )
  where
    top_bit : (a j : ℕ) → 2 ^ j ≤ a → a < 2 ^ suc j → bit_at a j ≡ 1
    top_bit a j low high =
        let double = two-pow-succ j in
        let one : a / 2 ^ j ≡ 1 = div-eq_of_lt-le (2 ^ j) (omega arith) (omega (arith, high, double)) in
        ap (λ n. n % 2) one

pub least_is : (words : List ℕ) (n : ℕ) → n < 4 → slice_index words n ≢ 0 → slice_index words n < 2 ^ 64 → ((i : ℕ) → i < n → slice_index words i ≡ 0)
    → IsLeast words (Some (n * 64 + trailing_zeros w64 (slice_index words n)))
least_is words n few some fits before =
    let word = slice_index words n in
    let lowest = bit_at-trailing_zeros w64 word (omega (arith, some)) fits in
    let j = trailing_zeros w64 word in (
      omega (arith, lowest.0),
      has_at words n j (n * 64 + j) lowest.0 refl ∙ ap (λ b. eqb b 1) lowest.1,
      λ k less. elim (cases_lt (k / 64) n) [
        | inl earlier ↦ none_in_word words k (before (k / 64) earlier)
        | inr later_not ↦
            let same : k / 64 ≡ n = omega arith in
            has_at words n (k % 64) k (omega arith) (omega arith) ∙ ap (λ b. eqb b 1) (lowest.2 (k % 64) (omega arith))
      ],
    )
