-- A list without what passes a test at its end.
use Rattle.std.proofs.Common.{◌≡◌, ℕ, zero, suc, ◌+◌, ◌<◌, ◌≤◌, Bool, true, false, List, [], ◌∷◌, length, take, get_or, refl, sym, ap, ◌∙◌, arith, add-one}
use Rattle.std.proofs.lemmas.List.{take-take}
use Rattle.sa_package_keys.specs.Codes.{kept_before, trimmed}

module _ {A : Type 0} (test : A → Bool) (d : A) where
  -- all from place n on pass the test
  abbrev pub PassFrom : ℕ → List A → Type 0
  PassFrom n xs = (t : ℕ) → n ≤ t → t < length xs → test (get_or xs t d) ≡ true

  passed : (x : A) → test x ≡ true → kept_before test x [] ≡ []
  passed x is = rw is refl

  failed : (x : A) → test x ≡ false → kept_before test x [] ≡ x ∷ []
  failed x is = rw is refl

  behind : (x : A) (xs : List A) (n : ℕ) → PassFrom (suc n) (x ∷ xs) → PassFrom n xs
  behind x xs n all t from low = all (suc t) (let h : suc n ≤ suc t = omega arith in h) (let h : suc t < length (x ∷ xs) = omega arith in h)

  pub trimmed-take : (xs : List A) (n : ℕ) → PassFrom n xs → trimmed test xs ≡ trimmed test (take n xs)
  trimmed-take [] zero all = refl
  trimmed-take [] (suc n) all = refl
  trimmed-take (x ∷ xs) zero all =
      ap (kept_before test x) (trimmed-take xs zero (λ t from low. all (suc t) (let h : 0 ≤ suc t = omega arith in h) (let h : suc t < length (x ∷ xs) = omega arith in h)))
      ∙ passed x (all 0 (let h : 0 ≤ 0 = omega arith in h) (let h : 0 < length (x ∷ xs) = omega arith in h))
  trimmed-take (x ∷ xs) (suc n) all = ap (kept_before test x) (trimmed-take xs n (behind x xs n all))

  pub trimmed-none : (xs : List A) → PassFrom 0 xs → trimmed test xs ≡ take 0 xs
  trimmed-none xs all = trimmed-take xs 0 all

  kept-suc : (xs : List A) (n : ℕ) → n < length xs → test (get_or xs n d) ≡ false → PassFrom (suc n) xs → trimmed test xs ≡ take (suc n) xs
  kept-suc [] n low is all = absurd (omega arith)
  kept-suc (x ∷ xs) zero low is all = ap (kept_before test x) (trimmed-none xs (behind x xs 0 all)) ∙ failed x is
  kept-suc (x ∷ []) (suc n) low is all = absurd (omega arith)
  kept-suc (x ∷ y ∷ ys) (suc n) low is all =
      ap (kept_before test x) (kept-suc (y ∷ ys) n (let h : n < length (y ∷ ys) = omega arith in h) is (behind x (y ∷ ys) (suc n) all))

  -- the last that does not pass is at place n
  pub trimmed-kept : (xs : List A) (n : ℕ) → n < length xs → test (get_or xs n d) ≡ false → PassFrom (n + 1) xs → trimmed test xs ≡ take (n + 1) xs
  trimmed-kept xs n low is all = kept-suc xs n low is (λ t from. all t (omega arith)) ∙ ap (λ k. take k xs) (sym (add-one n))

  -- what is kept of the first m, where all behind them pass the test
  pub trimmed-front : (xs : List A) (m k : ℕ) → PassFrom m xs → k ≤ m → trimmed test (take m xs) ≡ take k (take m xs) → trimmed test xs ≡ take k xs
  trimmed-front xs m k all few kept = trimmed-take xs m all ∙ kept ∙ take-take k m xs few
