-- What a search of a list by a test gives.
use Rattle.std.proofs.Common.{◌≡◌, ℕ, zero, suc, Bool, true, false, cond, Some, List, [], ◌∷◌, find, get_or, inl, inr, refl, sym, ap, ◌∙◌, subst}
use Rattle.std.specs.Prelude.{Contains, filter, take_while, ◌||◌, if◌then◌else◌}
use Rattle.std.specs.List.{list_any}
use Rattle.std.proofs.lemmas.List.Folds.{list_any_at}
use Rattle.std.proofs.lemmas.List.Sums.{take_while-cons}
use Rattle.std.proofs.lemmas.Option.{same_Some, none-some}
use Rattle.sa_lemmas.proofs.Booleans.{if_either}

-- what is found passes
pub find-passes : {A : Type 0} (test : A → Bool) (xs : List A) (x : A) → find test xs ≡ Some x → test x ≡ true
find-passes test [] x is = absurd (none-some x is)
find-passes test (y ∷ ys) x is = elim (if_either (test y) (Some y) (find test ys) (Some x) is) [
  | inl here ↦ subst (λ z. test z ≡ true) (same_Some y x here.1) here.0
  | inr later ↦ find-passes test ys x later.1
]

-- where none passes, nothing is left
pub none-left : {A : Type 0} (test : A → Bool) (xs : List A) → ((x : A) → test x ≡ false) → filter test xs ≡ []
none-left test [] none = refl
none-left test (x ∷ xs) none = ap (λ b. if b then x ∷ filter test xs else filter test xs) (none x) ∙ none-left test xs none

-- where the first item does not pass, nothing is taken
pub while-none : {A : Type 0} (test : A → Bool) (x : A) (xs : List A) → test x ≡ false → take_while test (x ∷ xs) ≡ []
while-none test x xs not_so = take_while-cons test x xs ∙ ap (λ b. cond b (x ∷ take_while test xs) []) not_so

-- a test that an item at a place passes, and nothing does not, is passed by some item
pub any_at : {A : Type 0} (nothing : A) (f : A → Bool) (xs : List A) (i : ℕ) → f nothing ≡ false → f (get_or xs i nothing) ≡ true → list_any f xs ≡ true
any_at nothing f [] i none is = absurd (let clash = sym none ∙ is in cc)
any_at nothing f (x ∷ xs) zero none is = ap (λ b. b || list_any f xs) is
any_at nothing f (x ∷ xs) (suc i) none is = one (f x) (any_at nothing f xs i none is) where
  one : (b : Bool) → list_any f xs ≡ true → (b || list_any f xs) ≡ true
  one true any = refl
  one false any = any

-- a test that an item of a list passes is passed by some item
pub any-contained : {A : Type 0} (test : A → Bool) (x : A) (xs : List A) → Contains xs x → test x ≡ true → list_any test xs ≡ true
any-contained test x xs has is = list_any_at test xs has.0 x has.1 (ap test has.2 ∙ is)
