-- Blocks of threads that were not made.
use Rattle.std.proofs.Common.{◌≡◌, ℕ, suc, refl, replicate}
use Rattle.std.specs.Prelude.{slice_index_or}

-- a list of one value alone has it at each place, if it is the value of what is not there
pub same-everywhere : {X : Type 0} (n i : ℕ) (x : X) → slice_index_or (replicate n x) i x ≡ x
same-everywhere (suc n) (suc i) x = same-everywhere n i x
same-everywhere _ _ x = refl
