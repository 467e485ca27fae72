-- What a function of the kernel needs of its parts.
use Rattle.std.specs.Prelude.{◌≡◌, ℕ, ◌+◌, ◌^◌, ◌≤◌, ◌<◌, [], length}
use Rattle.sa_base.specs.declared.number.ProcNo.{ProcNo}
use Rattle.sa_base.specs.declared.number.SpaceNo.{SpaceNo}
use Rattle.sa_base.specs.declared.limits.TheConstants.{MAX_EVENTS}
use Rattle.sa_kernel.specs.declared.parts.Parts.{Parts}
use Rattle.sa_kernel_model.specs.State.{KernelState}
use Rattle.sa_kernel_model.specs.Sound.{HasSizes}
use Rattle.sa_kernel.specs.View.{used}

module _ {C : Type 0} where
  -- the lists have their sizes, and this is one of the processors
  pub record HasProc (k : KernelState C) (p : ProcNo) : Type 0 where
    pub sizes : HasSizes k
    pub within : p.0 < length k.lives

  -- the lists have their sizes, and this is one of the spaces
  pub record HasSpace (k : KernelState C) (s : SpaceNo) : Type 0 where
    pub sizes : HasSizes k
    pub within : s.0 < length k.demands

  -- an upcall may come: what the last one told was fetched, and there is room and a number for a fresh activation
  pub record MayUpcall (m : Parts C) : Type 0 where
    pub fetched : m.notices.telling ≡ []
    pub room : 1 ≤ m.acts.spare
    pub few : used m + 1 < 2 ^ 32

  -- n I/Os may begin at the event: there is room and a number for each
  pub record MayBegin (m : Parts C) (event n : ℕ) : Type 0 where
    pub room : n ≤ m.devices.ios.spare
    pub last : event ≤ MAX_EVENTS
    pub few : m.devices.ios.io_count + n ≤ 2 ^ 32
