-- The lines of losses, as far as they are printed.
use Rattle.std.proofs.Common.{◌≡◌, ℕ, zero, suc, ◌+◌, List, ◌++◌, sym, ap, ◌∙◌, arith, append_assoc, append-nil}
use Rattle.std.specs.List.{flat_map, range_with_len}

module _ (line : ℕ → List ℕ) where
  from : (a n : ℕ) → flat_map line (range_with_len a (n + 1)) ≡ flat_map line (range_with_len a n) ++ line (a + n)
  from a zero = let same : a + 0 ≡ a = omega arith in append-nil (line a) ∙ ap line (sym same)
  from a (suc n) =
      let more : suc n + 1 ≡ suc (n + 1) = omega arith in
      let place : a + 1 + n ≡ a + suc n = omega arith in
      ap (λ k. flat_map line (range_with_len a k)) more ∙ ap (λ xs. line a ++ xs) (from (a + 1) n)
      ∙ sym (append_assoc (line a) (flat_map line (range_with_len (a + 1) n)) (line (a + 1 + n)))
      ∙ ap (λ k. line a ++ flat_map line (range_with_len (a + 1) n) ++ line k) place

  -- the line of one space more
  pub loss-more : (n : ℕ) → flat_map line (range_with_len 0 (n + 1)) ≡ flat_map line (range_with_len 0 n) ++ line n
  loss-more n = let place : 0 + n ≡ n = omega arith in from 0 n ∙ ap (λ k. flat_map line (range_with_len 0 n) ++ line k) place
