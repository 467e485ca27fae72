-- What each turn keeps of a machine, beside what stands: the I/Os stand in the order of their numbers, the kernel is that of the
-- workload, and each value is one that was made for its space.
use Rattle.std.specs.Prelude.{◌≡◌, ℕ, Option, Some, slice_get}
use Rattle.sa_spaces.specs.Space.{SpaceView}
use Rattle.sa_spaces.specs.Workload.{WorkloadView}
use Rattle.sa_abstract.specs.Keeps.{Standing}
use Rattle.sa_kernel_model.specs.State.{KernelState, Fixed}
use Rattle.sa_kernel_model.specs.Opening.{opening_state}
use Rattle.sa_core_model.specs.Machine.{Machine}
use Rattle.sa_core_model.specs.Standing.{IsBetween}
use Rattle.sa_outlook.proofs.ios.DueOrder.{AreNumbered}

abbrev pub IsNumbered : {C : Type 0} → KernelState C → Type 0
IsNumbered k = AreNumbered 0 k.io_count k.under_way

-- what the kernel is given of a workload
abbrev pub fixed_of : WorkloadView → Fixed
fixed_of w = (opening_state {C = ℕ} w).fixed

pub record IsRegular {U C : Type 0} (IsMade : Option SpaceView → U → Type 0) (m : Machine U C) : Type 0 where
  pub numbered : IsNumbered m.kernel
  pub fixed : m.kernel.fixed ≡ fixed_of m.workload
  pub made : (s : ℕ) (u : U) → slice_get m.users s ≡ Some u → IsMade (slice_get m.workload.spaces s) u

pub record Invariant {U C : Type 0} (stands : Standing U C) (IsMade : Option SpaceView → U → Type 0) (m : Machine U C) : Type 0 where
  pub between : IsBetween stands m
  pub regular : IsRegular IsMade m
