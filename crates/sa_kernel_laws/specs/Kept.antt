-- What is kept from turn to turn: the state of the kernel is what it knows of the history.
use Rattle.std.specs.Prelude.{◌≡◌, ◌≢◌, ℕ, ◌+◌, ◌≤◌, ◌==◌, if◌then◌else◌, List, [], ◌∷◌, length, map, sum_by, Contains}
use Rattle.sa_base.specs.declared.number.ActNo.{ActNo}
use Rattle.sa_base.specs.declared.record.Note.{Note}
use Rattle.sa_base.specs.declared.record.Note.TheVariants.{Add, Preempted, Blocked, Unblocked}
use Rattle.sa_spaces.specs.Space.{SpaceView}
use Rattle.sa_spaces.specs.Workload.{WorkloadView}
use Rattle.sa_devices.specs.Ios.{Io, one_fetch}
use Rattle.sa_kernel_model.specs.State.{KernelState, Fixed, untold_of, taken_of}
use Rattle.sa_acts.specs.Table.{held_of}
use Rattle.sa_kernel_model.specs.Closing.{was_idle as idle_in}
use Rattle.sa_kernel_model.specs.Sound.{IsSound, io_claim}
use Rattle.sa_laws.specs.Readings.{Readings, life_of, was_idle}
use Rattle.sa_kernel_laws.specs.Overview.{overview, read_off}

-- the kernel is that of the workload
abbrev pub fixed_of : WorkloadView → Fixed
fixed_of w = record {
  priorities = map (λ (s : SpaceView). s.priority) w.spaces;
  fetch = w.fetch;
  slice = w.slice;
  evictions = w.evictions;
}

-- a notice says that the activation has blocked; that it has come back; that a processor was added: once or not
abbrev pub block_claim : ℕ → Note → ℕ
block_claim a (Add p) = 0
block_claim a (Preempted b) = 0
block_claim a (Blocked b) = if a == b.0 then 1 else 0
block_claim a (Unblocked b) = 0

abbrev pub back_claim : ℕ → Note → ℕ
back_claim a (Add p) = 0
back_claim a (Preempted b) = 0
back_claim a (Blocked b) = 0
back_claim a (Unblocked b) = if a == b.0 then 1 else 0

abbrev pub add_claim : Note → ℕ
add_claim (Add p) = 1
add_claim (Preempted b) = 0
add_claim (Blocked b) = 0
add_claim (Unblocked b) = 0

abbrev pub fetch_claim : ℕ → Io → ℕ
fetch_claim s io = one_fetch s io.kind

-- no number is there twice
abbrev pub AreDistinct : List ActNo → Type 0
AreDistinct [] = Unit {0}
AreDistinct (a ∷ others) = ((b : ActNo) → Contains others b → b.0 ≢ a.0) × AreDistinct others

module _ {C : Type 0} where
  pub record IsOf (w : WorkloadView) (k : KernelState C) : Type 0 where
    pub fixed : k.fixed ≡ fixed_of w
    pub processors : length k.lives ≡ w.processors
    pub spaces : length k.demands ≡ length w.spaces

  -- what waits and what is under way is there once
  pub record IsTidy (k : KernelState C) : Type 0 where
    -- an added processor is told at once
    pub added : (s : ℕ) → sum_by add_claim (untold_of k s) ≡ 0
    -- who has blocked, and was not told of, is still blocked, or it was not told either that he has come back
    pub blocked : (s a : ℕ) → sum_by (block_claim a) (untold_of k s) ≤ sum_by (io_claim s a) k.under_way + sum_by (back_claim a) (untold_of k s)
    -- an upcall page is fetched once at a time
    pub fetched : (s : ℕ) → sum_by (fetch_claim s) k.under_way ≤ 1
    -- no activation is taken twice
    pub taken : (s : ℕ) → AreDistinct (taken_of k s)

  -- of each stop that waits to be told, the history and the kernel say alike whether the life was idle
  abbrev pub IdleAlike : KernelState C → Readings → Type 0
  IdleAlike k r = (s : ℕ) (a : ActNo) → Contains (untold_of k s) (Preempted a) → was_idle (life_of r a) ≡ idle_in (held_of (k.acts a.0))

  pub record IsKept (w : WorkloadView) (k : KernelState C) (r : Readings) : Type 0 where
    pub sound : IsSound k
    pub of : IsOf w k
    pub tidy : IsTidy k
    pub reads : overview r ≡ read_off k
    pub idle : IdleAlike k r
