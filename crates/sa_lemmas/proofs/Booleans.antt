-- What a choice by a test gives.
use Rattle.std.proofs.Common.{◌≡◌, Bool, true, false, cond, ◌⊎◌, inl, inr, refl}

-- the value of one case, or that of the other
pub if_either : {A : Type 0} (b : Bool) (x y z : A) → cond b x y ≡ z → ((b ≡ true) × (x ≡ z)) ⊎ ((b ≡ false) × (y ≡ z))
if_either true x y z is = inl (refl, is)
if_either false x y z is = inr (refl, is)
