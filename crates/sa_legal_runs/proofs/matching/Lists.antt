-- Reading a list at a place within it, and what a list contains.
use Rattle.std.proofs.Common.{◌≡◌, Bool, true, subst, ℕ, zero, suc, Some, List, [], ◌∷◌, slice_get}
use Rattle.std.specs.List.{list_all}
use Rattle.std.proofs.lemmas.Option.{same_Some, none-some}
use Rattle.std.proofs.lemmas.Bool.{and_parts}

pub all-pass : {A : Type 0} (g : A → Bool) (xs : List A) (i : ℕ) (x : A) → list_all g xs ≡ true → slice_get xs i ≡ Some x → g x ≡ true
all-pass g [] i x all at = absurd (none-some x at)
all-pass g (y ∷ ys) zero x all at = subst (λ z. g z ≡ true) (same_Some y x at) (and_parts (g y) (list_all g ys) all).0
all-pass g (y ∷ ys) (suc i) x all at = all-pass g ys i x (and_parts (g y) (list_all g ys) all).1 at
