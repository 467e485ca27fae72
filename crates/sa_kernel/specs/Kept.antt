-- The kernel as its callers see it.
use Rattle.std.specs.Prelude.{◌≡◌, ℕ, ◌*◌, ◌<◌, ◌≤◌, false, List, Option, Some, None, length, slice_index}
use Rattle.sa_base.specs.declared.number.ProcNo.{ProcNo}
use Rattle.sa_base.specs.declared.number.SpaceNo.{SpaceNo}
use Rattle.sa_base.specs.declared.limits.TheConstants.{MAX_EVENTS}
use Rattle.sa_base.specs.Recorded.{Recorded}
use Rattle.sa_kernel.specs.declared.parts.Parts.{Parts}
use Rattle.sa_kernel_model.specs.State.{KernelState, Scene, owner_of, line_of}
use Rattle.sa_kernel_model.specs.Closing.{has_low_line}
use Rattle.sa_kernel_model.specs.Seen.{low_of}
use Rattle.sa_kernel_model.specs.Owed.{pending_count}
use Rattle.sa_kernel_model.specs.Sound.{IsSound, IsPrompt}
use Rattle.sa_kernel.specs.View.{state_of, used}

-- the parts, for how many more entries there is room, and the event of the last entry
pub record KernelView (C : Type 0) : Type 0 where
  pub parts : Parts C
  pub spare : ℕ
  pub last : ℕ

-- what always holds
pub record IsKept {C : Type 0} (m : Parts C) (room event : ℕ) : Type 0 where
  pub sound : IsSound (state_of m)
  pub notices : room ≤ m.notices.spare
  pub acts : room ≤ m.acts.spare
  pub ios : 2 * room ≤ m.devices.ios.spare
  pub used : used m ≤ event
  pub io_count : m.devices.ios.io_count ≤ 2 * event
  pub pending : pending_count (state_of m) ≤ event
  pub prompt : IsPrompt (state_of m)
  pub last : event ≤ MAX_EVENTS

-- of each space, what it sees of low lines
abbrev pub AreLow : {C : Type 0} → KernelState C → List ℕ → Type 0
AreLow k lows = (s : SpaceNo) → s.0 < length k.demands → slice_index lows s.0 ≡ low_of k s

-- the space that owns a processor whose line is low, if this is one
abbrev pub IsLowOwner : {C : Type 0} → KernelState C → ProcNo → Option SpaceNo → Type 0
IsLowOwner k p None = (s : ℕ) → has_low_line k s p.0 ≡ false
IsLowOwner k p (Some s) = (owner_of k p ≡ Some s) × (line_of k p ≡ None)

-- what always holds, and what each space sees of low lines is at hand
pub record IsReady {C : Type 0} (m : Parts C) (lows : List ℕ) (room event : ℕ) : Type 0 where
  pub kept : IsKept m room event
  pub low : AreLow (state_of m) lows

module _ {C : Type 0} where
  -- the state of a kernel
  abbrev pub kernel_of : KernelView C → KernelState C
  kernel_of v = state_of v.parts

  -- the scene of a kernel and a trace
  abbrev pub scene : KernelView C → Recorded → Scene C
  scene v trace = record { state = kernel_of v; items = trace.items }

  -- the number of processors
  abbrev pub processors : KernelView C → ℕ
  processors v = length v.parts.lives.items
