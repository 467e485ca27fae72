-- What a call of the kernel does to the scene, where it may take a fresh activation.
use Rattle.std.specs.Prelude.{◌≡◌, ℕ, Bool, true, false, length, sum_by, Option, Some, None}
use Rattle.sa_base.specs.declared.number.ActNo.{ActNo}
use Rattle.sa_base.specs.declared.number.SpaceNo.{SpaceNo}
use Rattle.sa_kernel_model.specs.declared.entry.Given.{Given}
use Rattle.sa_kernel_model.specs.declared.entry.Given.TheVariants.{Nothing, Upcall}
use Rattle.sa_kernel_model.specs.State.{KernelState, Scene, can_upcall}

-- what is given by a call that upcalls, or does not
abbrev pub given_by : Bool → ActNo → Given
given_by true a = Upcall a
given_by false a = Nothing

-- the scene is another by f at some number that is not in use; the call upcalls in it, or does not
pub record Enters {C : Type 0} (old new : Scene C) (result : Given) (upcalls : Bool) (f : ActNo → Scene C → Scene C) : Type 0 where
  pub fresh : ActNo
  pub unused : old.state.acts fresh.0 ≡ None
  pub given : result ≡ given_by upcalls fresh
  pub scene : new ≡ f fresh old

module _ {C : Type 0} where
  -- an interrupt upcalls where the upcall page of the aim is resident
  abbrev pub upcalls_for : KernelState C → Option SpaceNo → Bool
  upcalls_for k None = false
  upcalls_for k (Some s) = can_upcall k s

  -- a block upcalls where the upcall page of the owner is resident
  abbrev pub upcalls_in : KernelState C → Option SpaceNo → Option ActNo → Bool
  upcalls_in k (Some s) (Some a) = can_upcall k s
  upcalls_in k _ _ = false

  -- how many notices were not told
  abbrev pub untold_count : KernelState C → ℕ
  untold_count k = sum_by length k.untold

  -- how many activations are taken and not given back
  abbrev pub taken_count : KernelState C → ℕ
  taken_count k = sum_by length k.taken
