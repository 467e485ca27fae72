-- A function that was updated at one place.
use Rattle.std.proofs.Common.{◌≡◌, ◌≢◌, ℕ, inl, inr, ap, sym, ◌∙◌, arith}
use Rattle.std.proofs.Math.Path.{fun_ext}
use Rattle.std.proofs.lemmas.Bool.{cases_eq}
use Rattle.std.proofs.lemmas.Bool.Decides.{nat_tests}
use Rattle.sa_lemmas.specs.Function.{put}

pub put-same : {A : Type 0} (f : ℕ → A) (i : ℕ) (a : A) → put f i a i ≡ a
put-same f i a = grind (arith, nat_tests)

pub put-other : {A : Type 0} (f : ℕ → A) (i j : ℕ) (a : A) → j ≢ i → put f i a j ≡ f j
put-other f i j a apart = grind (arith, nat_tests)

-- where a place is given as equal to that of the update
pub put-at : {A : Type 0} (f : ℕ → A) (i j : ℕ) (a : A) → j ≡ i → put f i a j ≡ a
put-at f i j a same = grind (arith, nat_tests)

-- of two updates at one place the second counts
pub put-put : {A : Type 0} (f : ℕ → A) (i : ℕ) (a b : A) → put (put f i a) i b ≡ put f i b
put-put f i a b = fun_ext (λ j. elim (cases_eq j i) [
  | inl same ↦ put-at (put f i a) i j b same ∙ sym (put-at f i j b same)
  | inr apart ↦ put-other (put f i a) i j b apart ∙ put-other f i j a apart ∙ sym (put-other f i j b apart)
])

-- an update by what is there changes nothing
pub put-self : {A : Type 0} (f : ℕ → A) (i : ℕ) → put f i (f i) ≡ f
put-self f i = fun_ext (λ j. elim (cases_eq j i) [
  | inl same ↦ put-at f i j (f i) same ∙ ap f (sym same)
  | inr apart ↦ put-other f i j (f i) apart
])
