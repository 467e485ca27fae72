-- What a list contains: an empty one nothing, another its first item and the items after it, and a list of one item that one alone.
use Rattle.std.proofs.Common.{◌≡◌, zero, suc, List, [], ◌∷◌, ◌⊎◌, inl, inr, refl, arith}
use Rattle.std.specs.Prelude.{Contains}

pub contains-nil : {A : Type 0} (a : A) → Contains [] a → ⊥
contains-nil a has = let below = has.1 in omega arith

pub contains-head : {A : Type 0} (a : A) (list : List A) → Contains (a ∷ list) a
contains-head a list = (0, omega arith, refl)

pub contains-tail : {A : Type 0} (a : A) (list : List A) (b : A) → Contains list b → Contains (a ∷ list) b
contains-tail a list b has = (suc has.0, (let h = has.1 in omega arith), has.2)

pub contains-single : {A : Type 0} (a b : A) → Contains (a ∷ []) b → a ≡ b
contains-single a b (zero, within, is) = is
contains-single a b (suc i, within, is) = absurd (omega arith)

-- what a list contains is its first item or one of the others
pub contains-cases : {A : Type 0} (a b : A) (list : List A) → Contains (a ∷ list) b → (a ≡ b) ⊎ Contains list b
contains-cases a b list (zero, within, is) = inl is
contains-cases a b list (suc i, within, is) = inr (i, omega arith, is)
