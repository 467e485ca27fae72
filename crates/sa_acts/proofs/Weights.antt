-- What lists of slots weigh together, where an empty slot weighs nothing.
use Rattle.std.proofs.Common.{◌≡◌, ◌≢◌, ℕ, zero, suc, ◌+◌, List, [], ◌∷◌, Option, None, slice_index_or, sum_by, refl, sym, ap, arith}
use Rattle.std.proofs.lemmas.List.Sums.{sum_by-cons}

module _ {A : Type 0} (weight : Option A → ℕ) (nothing : weight None ≡ 0) where
  weigh-none : (xs : List (Option A)) → ((i : ℕ) → slice_index_or xs i None ≡ None) → sum_by weight xs ≡ 0
  weigh-none [] none = refl
  weigh-none (x ∷ xs) none =
      let first : weight x ≡ weight None = ap weight (none 0) in
      omega (arith, nothing, first, weigh-none xs (λ i. none (suc i)), sum_by-cons weight x xs)

  weigh-same : (xs ys : List (Option A)) → ((i : ℕ) → slice_index_or ys i None ≡ slice_index_or xs i None)
      → sum_by weight ys ≡ sum_by weight xs
  weigh-same [] ys same = weigh-none ys same
  weigh-same (x ∷ xs) [] same = sym (weigh-none (x ∷ xs) (λ i. sym (same i)))
  weigh-same (x ∷ xs) (y ∷ ys) same =
      let first : weight y ≡ weight x = ap weight (same 0) in
      omega (arith, first, weigh-same xs ys (λ i. same (suc i)), sum_by-cons weight x xs, sum_by-cons weight y ys)

  -- where all but one slot stay, the difference is that of the one
  pub weigh-updates : (xs ys : List (Option A)) (key : ℕ)
      → ((i : ℕ) → i ≢ key → slice_index_or ys i None ≡ slice_index_or xs i None)
      → sum_by weight ys + weight (slice_index_or xs key None) ≡ sum_by weight xs + weight (slice_index_or ys key None)
  weigh-updates [] [] key others = refl
  weigh-updates [] (y ∷ ys) zero others =
      let goal : sum_by weight (y ∷ ys) + weight None ≡ 0 + weight y =
      omega (arith, nothing, weigh-none ys (λ i. others (suc i) (λ e. cc)), sum_by-cons weight y ys) in goal
  weigh-updates [] (y ∷ ys) (suc key) others =
      let first : weight y ≡ weight None = ap weight (others 0 (λ e. cc)) in
      let rest : sum_by weight ys + weight None ≡ 0 + weight (slice_index_or ys key None) =
      weigh-updates [] ys key (λ i apart. others (suc i) (λ e. apart cc)) in
      let goal : sum_by weight (y ∷ ys) + weight None ≡ 0 + weight (slice_index_or ys key None) =
      omega (arith, nothing, first, rest, sum_by-cons weight y ys) in goal
  weigh-updates (x ∷ xs) [] zero others =
      let goal : 0 + weight x ≡ sum_by weight (x ∷ xs) + weight None =
      omega (arith, nothing, weigh-none xs (λ i. sym (others (suc i) (λ e. cc))), sum_by-cons weight x xs) in goal
  weigh-updates (x ∷ xs) [] (suc key) others =
      let first : weight None ≡ weight x = ap weight (others 0 (λ e. cc)) in
      let rest : 0 + weight (slice_index_or xs key None) ≡ sum_by weight xs + weight None =
      weigh-updates xs [] key (λ i apart. others (suc i) (λ e. apart cc)) in
      let goal : 0 + weight (slice_index_or xs key None) ≡ sum_by weight (x ∷ xs) + weight None =
      omega (arith, nothing, first, rest, sum_by-cons weight x xs) in goal
  weigh-updates (x ∷ xs) (y ∷ ys) zero others =
      let rest : sum_by weight ys ≡ sum_by weight xs = weigh-same xs ys (λ i. others (suc i) (λ e. cc)) in
      let goal : sum_by weight (y ∷ ys) + weight x ≡ sum_by weight (x ∷ xs) + weight y =
      omega (arith, rest, sum_by-cons weight x xs, sum_by-cons weight y ys) in goal
  weigh-updates (x ∷ xs) (y ∷ ys) (suc key) others =
      let first : weight y ≡ weight x = ap weight (others 0 (λ e. cc)) in
      let rest : sum_by weight ys + weight (slice_index_or xs key None) ≡ sum_by weight xs + weight (slice_index_or ys key None) =
      weigh-updates xs ys key (λ i apart. others (suc i) (λ e. apart cc)) in
      let goal : sum_by weight (y ∷ ys) + weight (slice_index_or xs key None)
      ≡ sum_by weight (x ∷ xs) + weight (slice_index_or ys key None) =
      omega (arith, first, rest, sum_by-cons weight x xs, sum_by-cons weight y ys) in goal
