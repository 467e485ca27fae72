-- A turn of the kernel: an entry, or the end of a slice, on a processor, and the event that it makes.
use Rattle.std.specs.Prelude.{◌∷◌, ◌-◌, ◌+◌, ◌++◌, ◌≡◌, ◌≢◌, ℕ, ◌<◌, ◌≤◌, Bool, true, false, ◌&&◌, not, is_none, List, [], length, map, Option, Some, None}
use Rattle.std.specs.List.{list_all}
use Rattle.sa_base.specs.declared.number.ProcNo.{ProcNo}
use Rattle.sa_base.specs.declared.number.SpaceNo.{SpaceNo}
use Rattle.sa_base.specs.declared.number.ActNo.{ActNo}
use Rattle.sa_base.specs.declared.context.Stopped.{Stopped}
use Rattle.sa_base.specs.declared.record.Record.{Record}
use Rattle.sa_base.specs.declared.record.Record.TheVariants.{Ins, Out, Run, Cont, Back, Ready, Take, Free, Idle, Spin, Tick, Want, Line, GiveBack as GiveBackRecord}
use Rattle.sa_base.specs.declared.record.Item.{Item}
use Rattle.sa_base.specs.Items.{items_at}
use Rattle.sa_spaces.specs.Workload.{WorkloadView}
use Rattle.sa_kernel_model.specs.declared.entry.Entry.{Entry}
use Rattle.sa_kernel_model.specs.declared.entry.Entry.TheVariants as entry
use Rattle.sa_kernel_model.specs.State.{KernelState, Scene, owner_of, line_of, life_of, demand_of, taken_of}
use Rattle.sa_kernel_model.specs.Closing.{closed}
use Rattle.sa_kernel_model.specs.Entries.{entered, evicted_at, io_for}
use Rattle.sa_kernel_model.specs.Entering.{MayEnter}
use Rattle.sa_base.specs.declared.number.IoNo.{IoNo}
use Rattle.sa_devices.specs.Ios.{Io, io_at}
use Rattle.sa_laws.specs.Event.{Event}
use Rattle.sa_laws.specs.Turns.{IsInterrupt, IsBlock, IsOver}
use Rattle.sa_laws.specs.Life.{Life}
use Rattle.sa_laws.specs.Readings.{Readings, running_of, life_of as life_at}
use Rattle.sa_laws.specs.Record.{blocking}
use Rattle.sa_laws.specs.History.{event_begun, after_records}

pub record Turn (C : Type 0) : Type 0 where
  pub number : ℕ
  pub proc : ProcNo
  -- what the user level records first in this event
  pub says : List Record
  -- the entry, in a fresh activation of this number if it upcalls; or none, where a slice ends
  pub fresh : ActNo
  pub entry : Option (Entry C)

-- the records of a user level: they change nothing that the kernel knows
abbrev pub is_users : Record → Bool
is_users (Ins s t i) = true
is_users (Out s t v) = true
is_users (Run s t) = true
is_users (Cont s t) = true
is_users (Back s t) = true
is_users (Ready s t) = true
is_users (Take s l t) = true
is_users (Free s l t) = true
is_users Idle = true
is_users (Spin l) = true
is_users Tick = true
is_users _ = false

abbrev pub AreUsers : List Record → Type 0
AreUsers says = list_all is_users says ≡ true

abbrev pub what_of : Item → Record
what_of i = i.what

-- What an event consists of before its closing: what the user level says, and the entry's own records.
pub record IsBehind (says records : List Record) (Own : List Record → Type 0) : Type 0 where
  pub own : List Record
  pub is : records ≡ says ++ own
  pub shape : Own own

module _ {C : Type 0} where
  -- the scene before the entry: the evictions of the event are done, and the user level has recorded what it does
  abbrev pub before_entry : Turn C → KernelState C → Scene C
  before_entry t k = record { state = evicted_at t.number k; items = items_at t.number t.proc t.says }

  abbrev pub turn_on : ℕ → ProcNo → ActNo → Option (Entry C) → Scene C → Scene C
  turn_on e p fresh None x = closed e p x
  turn_on e p fresh (Some entry) x = entered e p fresh entry x

  abbrev pub turned : Turn C → KernelState C → Scene C
  turned t k = turn_on t.number t.proc t.fresh t.entry (before_entry t k)

  -- the event, with all its records in order
  abbrev pub event_of : Turn C → KernelState C → Event
  event_of t k = record { number = t.number; proc = t.proc; records = map what_of (turned t k).items }

  -- the number of an entry's activation is not in use
  abbrev pub IsUnused : KernelState C → ActNo → Option (Entry C) → Type 0
  IsUnused k fresh None = Unit {0}
  IsUnused k fresh (Some en) = k.acts fresh.0 ≡ None

  -- the entry asks for the line of another processor
  abbrev pub asks_line : Option (Entry C) → Bool
  asks_line (Some (entry.InterruptOwn q)) = true
  asks_line _ = false

  -- a slice ends only on a processor whose line is low; any entry comes where it fits
  abbrev pub MayTurn : KernelState C → ProcNo → ℕ → Option (Entry C) → Type 0
  MayTurn k p e None = line_of k p ≡ None
  MayTurn k p e (Some entry) = MayEnter k p e entry

  -- The context that an interrupt hands over was idle as the history reads it: its life was not in, and carries no
  -- thread.
  abbrev pub WasIdle : Readings → ProcNo → Stopped C → Type 0
  WasIdle r p held =
      (a : ActNo) (life : Life) → running_of r p ≡ Some a → life_at r a ≡ Some life
      → held.idle ≡ (not life.inside && is_none held.thread)

  abbrev pub WereIdle : Readings → ProcNo → Option (Stopped C) → Type 0
  WereIdle r p None = Unit {0}
  WereIdle r p (Some held) = WasIdle r p held

  -- A block is for what the history reads, and takes as long; r is read before the record of the block.
  abbrev pub IsFor : WorkloadView → KernelState C → ProcNo → Readings → Stopped C → ℕ → Option ℕ → Type 0
  IsFor w k p r held length page =
      (s : SpaceNo) (a : ActNo) → owner_of k p ≡ Some s → life_of k p ≡ Some a
      → blocking w r s held.thread a ≡ (record { kind = io_for s a page; length = length })

  -- What the entry says of the user level is what the history reads, and the records before it are the user level's.
  -- Where the kernel's own record is the first of the event, there are none. r is read before the event, m before the
  -- entry.
  abbrev pub SaysRightly : WorkloadView → KernelState C → ProcNo → Readings → Readings → List Record → Option (Entry C) → Type 0
  SaysRightly w k p r m says (Some (entry.Interrupt held)) = (says ≡ []) × WereIdle r p held
  SaysRightly w k p r m says (Some (entry.Block held length page)) = AreUsers says × IsFor w k p m held length page
  SaysRightly w k p r m says (Some (entry.Complete io)) = AreUsers says
  SaysRightly w k p r m says (Some (entry.More n)) = says ≡ []
  SaysRightly w k p r m says (Some entry.Idle) = says ≡ []
  SaysRightly w k p r m says (Some entry.GiveBack) = AreUsers says
  SaysRightly w k p r m says (Some (entry.InterruptOwn q)) = says ≡ []
  SaysRightly w k p r m says None = (says ≢ []) × AreUsers says

  -- what is read before the entry
  abbrev pub read_before_entry : WorkloadView → Turn C → KernelState C → Readings → Readings
  read_before_entry w t k r = after_records w t.number t.proc (event_begun w (event_of t k) r) t.says

  -- the turn can be taken: its entry meets its conditions, all notices of the last upcall were fetched, and what is read
  -- from the entry is so
  pub record CanTurn (w : WorkloadView) (k : KernelState C) (r : Readings) (t : Turn C) : Type 0 where
    pub within : t.proc.0 < length k.lives
    pub later : 1 ≤ t.number
    pub unused : IsUnused k t.fresh t.entry
    pub fetched : k.telling ≡ []
    pub fits : MayTurn (evicted_at t.number k) t.proc t.number t.entry
    pub says : SaysRightly w (evicted_at t.number k) t.proc r (read_before_entry w t k r) t.says t.entry

  abbrev pub IsOverFor : KernelState C → IoNo → List Record → Type 0
  IsOverFor k io own = (here : Io) → io_at io.0 k.under_way ≡ Some here → IsOver here.kind own

  abbrev pub HintsOf : KernelState C → ProcNo → (SpaceNo → ℕ) → List Record → Type 0
  HintsOf k p n records = (s : SpaceNo) → owner_of k p ≡ Some s → records ≡ Want s (n s) ∷ []

  abbrev pub GivesBack : KernelState C → ProcNo → List Record → Type 0
  GivesBack k p own = (s : SpaceNo) → owner_of k p ≡ Some s → own ≡ map GiveBackRecord (taken_of k s.0)

  abbrev pub ShapeOf : KernelState C → ProcNo → List Record → Option (Entry C) → List Record → Type 0
  ShapeOf k p says None records = records ≡ says
  ShapeOf k p says (Some (entry.Interrupt held)) records = IsInterrupt records
  ShapeOf k p says (Some (entry.Block held len page)) records = IsBehind says records IsBlock
  ShapeOf k p says (Some (entry.Complete io)) records = IsBehind says records (IsOverFor k io)
  ShapeOf k p says (Some (entry.More n)) records = HintsOf k p (λ s. demand_of k s.0 + n) records
  ShapeOf k p says (Some entry.Idle) records = HintsOf k p (λ s. demand_of k s.0 - 1) records
  ShapeOf k p says (Some entry.GiveBack) records = IsBehind says records (GivesBack k p)
  ShapeOf k p says (Some (entry.InterruptOwn q)) records = records ≡ Line q ∷ []
