-- What the contracts of the kernel's calls say of the history.
use Rattle.std.specs.Prelude.{◌≡◌, ℕ, ◌≤◌, ◌<◌, Bool, List, [], ◌++◌, length, Option, Some, None}
use Rattle.sa_base.specs.declared.number.ProcNo.{ProcNo}
use Rattle.sa_base.specs.declared.number.ActNo.{ActNo}
use Rattle.sa_base.specs.declared.record.Record.{Record}
use Rattle.sa_base.specs.declared.record.Item.{Item}
use Rattle.sa_base.specs.Items.{items_at}
use Rattle.sa_spaces.specs.Workload.{WorkloadView, IsWorkload}
use Rattle.sa_kernel_model.specs.declared.entry.Entry.{Entry}
use Rattle.sa_kernel_model.specs.declared.entry.Given.{Given}
use Rattle.sa_kernel_model.specs.State.{KernelState, Scene}
use Rattle.sa_kernel_model.specs.Closing.{closed}
use Rattle.sa_kernel_model.specs.Entries.{entered, evicted_at}
use Rattle.sa_kernel_model.specs.Enters.{Enters}
use Rattle.sa_laws.specs.Event.{Event}
use Rattle.sa_laws.specs.Readings.{Readings}
use Rattle.sa_laws.specs.History.{Test, event_begun, after_records, after_event}
use Rattle.sa_kernel_laws.specs.Turn.{MayTurn, SaysRightly}
use Rattle.sa_kernel_laws.specs.Kept.{IsKept}
use Rattle.sa_kernel_laws.specs.Laws.{AllHold}

-- an event of this number and processor, with no record yet
abbrev pub event_at : ℕ → ProcNo → Event
event_at e p = record { number = e; proc = p; records = [] }

module _ {C : Type 0} where
  -- a call comes in event e on processor p, before which this was read, and in which the user level has recorded this
  pub record CanCall (w : WorkloadView) (k : KernelState C) (r : Readings) (e : ℕ) (p : ProcNo) (says : List Record) (en : Option (Entry C)) : Type 0 where
    pub ok : IsWorkload w
    pub kept : IsKept w k r
    pub within : p.0 < length k.lives
    pub later : 1 ≤ e
    pub fetched : k.telling ≡ []
    pub fits : MayTurn (evicted_at e k) p e en
    pub right : SaysRightly w (evicted_at e k) p r (after_records w e p (event_begun w (event_at e p) r) says) says en

  -- the scene before the call, after a past
  abbrev pub scene_before : KernelState C → ℕ → ProcNo → List Record → List Item → Scene C
  scene_before k e p says past = record { state = evicted_at e k; items = past ++ items_at e p says }

  -- the history goes on by one event, at which the kernel's laws hold
  pub record IsContinued (test : Test) (w : WorkloadView) (r : Readings) (e : ℕ) (p : ProcNo) (past : List Item) (new : Scene C) : Type 0 where
    pub event : Event
    pub number : event.number ≡ e
    pub proc : event.proc ≡ p
    pub items : new.items ≡ past ++ items_at e p event.records
    pub lawful : AllHold test w r event
    pub kept : IsKept w new.state (after_event test w r event)

module _ (C : Type 0) where
  -- After an entry the history goes on by what its contract says.
  abbrev pub EntriesGoOn : Type 0
  EntriesGoOn =
      (test : Test) (w : WorkloadView) (k : KernelState C) (r : Readings) (e : ℕ) (p : ProcNo) (says : List Record) (past : List Item) (en : Entry C)
      (result : Given) (upcalls : Bool) (new : Scene C)
      → CanCall w k r e p says (Some en) → Enters (scene_before k e p says past) new result upcalls (λ (a : ActNo). entered e p a en)
      → IsContinued test w r e p past new

  -- After the end of a slice the history goes on by the kernel alone.
  abbrev pub SlicesGoOn : Type 0
  SlicesGoOn =
      (test : Test) (w : WorkloadView) (k : KernelState C) (r : Readings) (e : ℕ) (p : ProcNo) (says : List Record) (past : List Item) (new : Scene C)
      → CanCall w k r e p says None → new ≡ closed e p (scene_before k e p says past)
      → IsContinued test w r e p past new
