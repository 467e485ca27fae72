-- What a user level sees of the kernel, and when nothing can happen any more.
use Rattle.std.specs.Prelude.{◌≡◌, ℕ, zero, suc, ◌^◌, bit_or, Bool, ◌&&◌, ◌==◌, not, if◌then◌else◌, length, Some, None, is_some, slice_index}
use Rattle.std.specs.List.{list_any}
use Rattle.sa_base.specs.declared.number.ProcNo.{ProcNo}
use Rattle.sa_base.specs.declared.number.SpaceNo.{SpaceNo}
use Rattle.sa_base.specs.declared.context.Seen.{Seen}
use Rattle.sa_assign.specs.Aims.{least_below}
use Rattle.sa_assign.specs.Reaim.{proc_no}
use Rattle.sa_kernel_model.specs.State.{KernelState, owner_of, line_of, demand_of, untold_of, taken_of}
use Rattle.sa_kernel_model.specs.Closing.{spaces, calls_for, has_low_line}

-- the number below 2 ^ n whose bit q says that the test holds of q
abbrev pub bits_where : (ℕ → Bool) → ℕ → ℕ
bits_where test zero = 0
bits_where test (suc n) = if test n then bit_or (bits_where test n) (2 ^ n) else bits_where test n

module _ {C : Type 0} where
  -- bit q says that the space owns processor q, whose line is low
  abbrev pub low_of : KernelState C → SpaceNo → ℕ
  low_of k s = bits_where (has_low_line k s.0) (length k.lives)

  -- what the space sees on one of its processors at an event
  abbrev pub seen_of : KernelState C → ProcNo → SpaceNo → ℕ → Seen
  seen_of k p s e = record {
    proc = p;
    event = e;
    demand = demand_of k s.0;
    pages = slice_index k.pages s.0;
    taken = length (taken_of k s.0);
    low = low_of k s;
  }

  -- the space owns the processor, and the line is low
  pub record IsLow (k : KernelState C) (s : SpaceNo) (q : ProcNo) : Type 0 where
    pub owner : owner_of k q ≡ Some s
    pub line : line_of k q ≡ None

  -- the line of a processor is raised
  abbrev pub is_raised : KernelState C → ℕ → Bool
  is_raised k q = is_some (line_of k (proc_no q))

  abbrev pub has_line : KernelState C → Bool
  has_line k = is_some (least_below (length k.lives) (is_raised k))

  -- a space was not told yet of a context that has come back, or was stopped at work
  abbrev pub is_called : KernelState C → ℕ → Bool
  is_called k s = list_any (calls_for k) (untold_of k s)

  abbrev pub has_call : KernelState C → Bool
  has_call k = is_some (least_below (spaces k) (is_called k))

  -- no I/O or fetch is under way, no line is raised, and no space waits to be told of a context that was not idle
  abbrev pub is_quiet : KernelState C → Bool
  is_quiet k = length k.under_way == 0 && not (has_line k) && not (has_call k)
