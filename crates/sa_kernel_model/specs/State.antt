-- The kernel as a value.
use Rattle.std.specs.Prelude.{ℕ, Bool, List, [], ◌∷◌, ◌++◌, Option, None, slice_index, slice_index_or}
use Rattle.std.specs.List.{list_any}
use Rattle.sa_base.specs.declared.number.ProcNo.{ProcNo}
use Rattle.sa_base.specs.declared.number.SpaceNo.{SpaceNo}
use Rattle.sa_base.specs.declared.number.ActNo.{ActNo}
use Rattle.sa_base.specs.declared.record.Note.{Note}
use Rattle.sa_base.specs.declared.record.Record.{Record}
use Rattle.sa_base.specs.declared.record.Item.{Item}
use Rattle.sa_spaces.specs.declared.workload.Evict.{Evict}
use Rattle.sa_acts.specs.declared.acts.Act.{Act}
use Rattle.sa_assign.specs.AssignView.{AssignView}
use Rattle.sa_devices.specs.Ios.{Io, fetches}
use Rattle.sa_base.specs.Pages.{has_page}

-- what the workload says once and for all
pub record Fixed : Type 0 where
  -- of each space: those of a higher priority are served first
  pub priorities : List ℕ
  -- how many events the fetch of a page takes
  pub fetch : ℕ
  -- after how many events the remainder of the processors rotates, 0 for never
  pub slice : ℕ
  pub evictions : List Evict

pub record KernelState (C : Type 0) : Type 0 where
  pub fixed : Fixed
  -- of each processor: the space that owns it, its aim, its line, its idle mark
  pub assign : AssignView
  -- of each processor: the activation that runs there
  pub lives : List (Option ActNo)
  -- of each number in use: its space, the context that is held of it, and whether that was taken
  pub acts : ℕ → Option (Act C)
  -- of each space: the taken activations that were not given back, in the order of taking
  pub taken : List (List ActNo)
  -- of each space: the number of processors that it last announced
  pub demands : List ℕ
  -- of each space: what it was not told yet, in order
  pub untold : List (List Note)
  -- what the last upcall told and its context has not fetched yet, in order
  pub telling : List Note
  -- how many I/Os were begun, and those under way in the order of their numbers
  pub io_count : ℕ
  pub under_way : List Io
  -- of each space: bit k says that page k is resident
  pub pages : List ℕ

-- the kernel in the middle of an event: its state, and all items of the trace so far
pub record Scene (C : Type 0) : Type 0 where
  pub state : KernelState C
  pub items : List Item

module _ {C : Type 0} where
  abbrev pub owner_of : KernelState C → ProcNo → Option SpaceNo
  owner_of k p = slice_index_or k.assign.owners p.0 None

  abbrev pub aim_of : KernelState C → ProcNo → Option SpaceNo
  aim_of k p = slice_index_or k.assign.aims p.0 None

  -- the event that raised the line of a processor, none where it is low
  abbrev pub line_of : KernelState C → ProcNo → Option ℕ
  line_of k p = slice_index_or k.assign.lines p.0 None

  abbrev pub life_of : KernelState C → ProcNo → Option ActNo
  life_of k p = slice_index_or k.lives p.0 None

  abbrev pub demand_of : KernelState C → ℕ → ℕ
  demand_of k s = slice_index k.demands s

  abbrev pub untold_of : KernelState C → ℕ → List Note
  untold_of k s = slice_index_or k.untold s []

  abbrev pub taken_of : KernelState C → ℕ → List ActNo
  taken_of k s = slice_index_or k.taken s []

  -- the upcall page of a space is resident; it is being fetched
  abbrev pub can_upcall : KernelState C → SpaceNo → Bool
  can_upcall k s = has_page (slice_index k.pages s.0) 0

  abbrev pub is_fetching : KernelState C → ℕ → Bool
  is_fetching k s = list_any (fetches s) k.under_way

  -- a record of this event on this processor
  abbrev pub says : ℕ → ProcNo → Record → Scene C → Scene C
  says e p r x = record x { items = x.items ++ record { event = e; proc = p; what = r } ∷ [] }
