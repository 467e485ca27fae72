-- What does not pass the tests of the ends of lists.
use Rattle.std.proofs.Common.{◌≡◌, ℕ, zero, suc, ◌&&◌, false, nat_eq, List, [], ◌∷◌, length, replicate, inl, inr, refl, ap, arith}
use Rattle.std.specs.List.{list_all}
use lib.Pointwise.{pointwise}
use Rattle.std.proofs.lemmas.Bool.Decides.{eqb_tells}
use Rattle.sa_package_keys.specs.Packages.{is_empty, is_zero}

pub filled : (xs : List ℕ) → (xs ≡ [] → ⊥) → is_empty xs ≡ false
filled [] some = absurd (some refl)
filled (x ∷ xs) some = refl

pub nonzero : (n : ℕ) → (n ≡ 0 → ⊥) → is_zero n ≡ false
nonzero n some = elim (eqb_tells n 0) [ inl both ↦ absurd (some both.1) | inr both ↦ both.0 ]

-- numbers compared with as many zeros
pub pointwise-zeros : (xs : List ℕ) (n : ℕ) → length xs ≡ n → pointwise nat_eq xs (replicate n 0) ≡ list_all is_zero xs
pointwise-zeros [] zero count = refl
pointwise-zeros (x ∷ xs) (suc n) count = ap (λ b. is_zero x && b) (pointwise-zeros xs n (let e : length xs ≡ n = omega arith in e))
pointwise-zeros _ _ count = absurd (omega arith)
