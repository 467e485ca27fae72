-- The kernel and its trace from call to call: the history that they show, at each event of which the kernel's laws hold.
use Rattle.std.specs.Prelude.{◌≡◌, ℕ, ◌<◌, ◌≤◌, List, [], ◌∷◌, ◌++◌, length, Option, None}
use Rattle.sa_base.specs.declared.number.ProcNo.{ProcNo}
use Rattle.sa_base.specs.declared.record.Record.{Record}
use Rattle.sa_base.specs.declared.record.Item.{Item}
use Rattle.sa_base.specs.Items.{items_at}
use Rattle.sa_spaces.specs.Workload.{WorkloadView, IsWorkload}
use Rattle.sa_kernel_model.specs.declared.entry.Entry.{Entry}
use Rattle.sa_kernel_model.specs.State.{KernelState, Scene}
use Rattle.sa_kernel_model.specs.Closing.{NoLineIsDue}
use Rattle.sa_kernel_model.specs.Entries.{evicted_at}
use Rattle.sa_laws.specs.Event.{Event, items_of}
use Rattle.sa_laws.specs.Readings.{Readings, opening_readings}
use Rattle.sa_laws.specs.History.{Test, event_begun, after_records, readings}
use Rattle.sa_laws.specs.Opening.{opening_event}
use Rattle.sa_laws.specs.Closing.{first_space}
use Rattle.sa_kernel_laws.specs.Turn.{MayTurn, SaysRightly}
use Rattle.sa_kernel_laws.specs.Kept.{IsKept}
use Rattle.sa_kernel_laws.specs.Runs.{AllHoldFrom}
use Rattle.sa_kernel_laws.specs.Calls.{event_at}

-- the last of some events, and the number of the last one after the opening
abbrev pub last_of : Event → List Event → Event
last_of e [] = e
last_of e (x ∷ xs) = last_of x xs

abbrev pub last_number : WorkloadView → List Event → ℕ
last_number w events = (last_of (opening_event w) events).number

-- what is read after the opening and these events; and within the next one, where the user level has recorded what it does
abbrev pub read_from : Test → WorkloadView → List Event → Readings
read_from test w events = readings test w (opening_event w ∷ events)

abbrev pub read_within : WorkloadView → ℕ → ProcNo → Readings → List Record → Readings
read_within w e p r says = after_records w e p (event_begun w (event_at e p) r) says

module _ {C : Type 0} where
  -- The trace is that of the opening and these events, at each of which the kernel's laws hold; and the kernel is what it
  -- knows of them.
  pub record IsHistory (test : Test) (w : WorkloadView) (events : List Event) (x : Scene C) : Type 0 where
    pub ok : IsWorkload w
    pub items : x.items ≡ items_of (opening_event w ∷ events)
    pub lawful : AllHoldFrom test w (opening_readings w) (opening_event w ∷ events)
    pub kept : IsKept w x.state (read_from test w events)
    pub low : NoLineIsDue x.state

  -- Event e goes on, on processor p: after these events its pages were evicted, and the user level has recorded what it
  -- does. Now the kernel may be entered so, or a slice ends.
  pub record IsUnderWay (test : Test) (w : WorkloadView) (events : List Event) (e : ℕ) (p : ProcNo) (says : List Record) (entry : Option (Entry C))
      (x : Scene C) : Type 0 where
    pub before : Scene C
    pub history : IsHistory test w events before
    pub state : x.state ≡ evicted_at e before.state
    pub items : x.items ≡ before.items ++ items_at e p says
    pub fetched : x.state.telling ≡ []
    pub fits : MayTurn x.state p e entry
    -- what the entry says of the user level is what the history reads
    pub right : let r = read_from test w events in SaysRightly w x.state p r (read_within w e p r says) says entry

  -- the history is longer by an event of this number and processor
  pub record IsLonger (test : Test) (w : WorkloadView) (events : List Event) (e : ℕ) (p : ProcNo) (x : Scene C) : Type 0 where
    pub event : Event
    pub number : event.number ≡ e
    pub proc : event.proc ≡ p
    pub history : IsHistory test w (events ++ event ∷ []) x

  -- what a call makes of an event that goes on
  abbrev pub GoesOnLawfully : ℕ → ProcNo → Option (Entry C) → Scene C → Scene C → Type 0
  GoesOnLawfully e p entry old new =
      (test : Test) (w : WorkloadView) (events : List Event) (says : List Record) → IsUnderWay test w events e p says entry old
      → IsLonger test w events e p new

  -- a history that ends in the one state is a history of the other too
  abbrev pub KeepsHistories : KernelState C → KernelState C → Type 0
  KeepsHistories old new =
      (test : Test) (w : WorkloadView) (events : List Event) (items : List Item) → IsHistory test w events (record { state = old; items = items })
      → IsHistory test w events (record { state = new; items = items })

module _ (C : Type 0) where
  -- An event of the user level's records alone, at which no slice ends, makes a history longer without the kernel.
  abbrev pub QuietEventsGoOn : Type 0
  QuietEventsGoOn =
      (test : Test) (w : WorkloadView) (events : List Event) (e : ℕ) (p : ProcNo) (says : List Record) (x : Scene C) → IsUnderWay test w events e p says None x
      → p.0 < length x.state.lives → 1 ≤ e → first_space w e ≡ first_space w (last_number w events)
      → IsHistory test w (events ++ record { number = e; proc = p; records = says } ∷ []) x
