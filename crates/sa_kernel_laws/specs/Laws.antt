-- The kernel keeps its laws, whatever the user level does.
use Rattle.std.specs.Prelude.{ℕ, None, false, ◌≡◌, List, ◌++◌}
use Rattle.sa_base.specs.declared.number.ProcNo.{ProcNo}
use Rattle.sa_base.specs.declared.record.Record.{Record}
use Rattle.sa_base.specs.declared.record.Item.{Item}
use Rattle.sa_spaces.specs.Workload.{WorkloadView, IsWorkload}
use Rattle.sa_kernel_model.specs.State.{KernelState, line_of}
use Rattle.sa_kernel_model.specs.Entries.{after_fetch, evicted_at}
use Rattle.sa_kernel_model.specs.Opening.{opened}
use Rattle.sa_base.specs.Items.{items_at}
use Rattle.sa_assign.specs.Reaim.{proc_no}
use Rattle.sa_laws.specs.Event.{Event}
use Rattle.sa_laws.specs.Readings.{Readings, opening_readings}
use Rattle.sa_laws.specs.History.{Test, after_event}
use Rattle.sa_laws.specs.Opening.{opening_event}
use Rattle.sa_laws.specs.Shape.{own_part, closing_part}
use Rattle.sa_laws.specs.Turns.{IsClosing}
use Rattle.sa_laws.specs.Rules.{NoLines}
use Rattle.sa_laws.specs.Upcalls.{OwnLines, IsToldOnce, IsToldInTime, RunsWhereOwned, AllIsTold, UpcallIsGiven, InterruptIsNext, LineHasCause, WantHasCause, SharesAreCovered}
use Rattle.sa_kernel_laws.specs.Turn.{AreUsers, Turn, CanTurn, ShapeOf, asks_line, turned, turn_on, before_entry, event_of}
use Rattle.sa_kernel_laws.specs.Kept.{IsKept}

-- a user level may ask for the line of any processor of its space
abbrev pub AnyLines : OwnLines
AnyLines w r p q = Unit {0}

-- a law of events, given a test of which lives are in
abbrev pub KernelLaw : Type 1
KernelLaw = Test → WorkloadView → Readings → Event → Type 0

-- laws that ask no test, and one that takes any line
abbrev pub ToldOnce : KernelLaw
ToldOnce test w r e = IsToldOnce w r e

abbrev pub AllTold : KernelLaw
AllTold test w r e = AllIsTold w r e

abbrev pub UpcallGiven : KernelLaw
UpcallGiven test w r e = UpcallIsGiven w r e

abbrev pub InterruptNext : KernelLaw
InterruptNext test w r e = InterruptIsNext w r e

abbrev pub LineCause : KernelLaw
LineCause test w r e = LineHasCause AnyLines w r e

-- all of them at an event
pub record AllHold (test : Test) (w : WorkloadView) (r : Readings) (e : Event) : Type 0 where
  pub told_once : IsToldOnce w r e
  pub told_in_time : IsToldInTime test w r e
  pub where_owned : RunsWhereOwned test w r e
  pub all_told : AllIsTold w r e
  pub upcall_given : UpcallIsGiven w r e
  pub interrupt_next : InterruptIsNext w r e
  pub line_cause : LineHasCause AnyLines w r e
  pub want_cause : WantHasCause test w r e
  pub shares_covered : SharesAreCovered test w r e

-- it holds at the opening
abbrev pub HoldsAtOpening : KernelLaw → Type 0
HoldsAtOpening L = (test : Test) (w : WorkloadView) → IsWorkload w → L test w (opening_readings w) (opening_event w)

-- the own part of an event is that of its entry, and the rest is a closing
pub record HasParts {C : Type 0} (k : KernelState C) (t : Turn C) (e : Event) : Type 0 where
  pub own : ShapeOf (evicted_at t.number k) t.proc t.says t.entry (own_part e.records)
  pub closing : IsClosing (closing_part e.records)

module _ (C : Type 0) where
  -- it holds at the event of each turn that can be taken
  abbrev pub HoldsAtTurns : KernelLaw → Type 0
  HoldsAtTurns L =
      (test : Test) (w : WorkloadView) (k : KernelState C) (r : Readings) (t : Turn C) → IsWorkload w → IsKept w k r → CanTurn w k r t
      → L test w r (event_of t k)

  -- where no entry asks for a line, each line has its cause in the kernel
  abbrev pub LinesAreTheKernels : Type 0
  LinesAreTheKernels =
      (w : WorkloadView) (k : KernelState C) (r : Readings) (t : Turn C) → IsWorkload w → IsKept w k r → CanTurn w k r t → asks_line t.entry ≡ false
      → LineHasCause NoLines w r (event_of t k)

  -- a turn keeps what is kept; so does the fetch of a notice
  abbrev pub TurnsKeep : Type 0
  TurnsKeep =
      (test : Test) (w : WorkloadView) (k : KernelState C) (r : Readings) (t : Turn C) → IsWorkload w → IsKept w k r → CanTurn w k r t
      → IsKept w (turned t k).state (after_event test w r (event_of t k))

  abbrev pub FetchesKeep : Type 0
  FetchesKeep = (w : WorkloadView) (k : KernelState C) (r : Readings) → IsKept w k r → IsKept w (after_fetch k.telling k) r

  -- so does an event of a user level's records alone
  abbrev pub QuietEventsKeep : Type 0
  QuietEventsKeep =
      (test : Test) (w : WorkloadView) (k : KernelState C) (r : Readings) (e : ℕ) (p : ProcNo) (says : List Record) → IsKept w k r → line_of k p ≡ None
      → AreUsers says
      → IsKept w (evicted_at e k) (after_event test w r (record { number = e; proc = p; records = says }))

  -- the opening is that of the laws, and begins it
  abbrev pub OpeningIs : Type 0
  OpeningIs = (w : WorkloadView) → IsWorkload w → (opened {C = C} w).items ≡ items_at 0 (proc_no 0) (opening_event w).records

  abbrev pub OpeningKeeps : Type 0
  OpeningKeeps =
      (test : Test) (w : WorkloadView) → IsWorkload w
      → IsKept w (opened {C = C} w).state (after_event test w (opening_readings w) (opening_event w))

  -- a turn adds the items of its event after those that were in the trace
  abbrev pub AddsItsEvent : Type 0
  AddsItsEvent =
      (w : WorkloadView) (k : KernelState C) (r : Readings) (t : Turn C) (past : List Item) → IsWorkload w → IsKept w k r → CanTurn w k r t
      → turn_on t.number t.proc t.fresh t.entry (record (before_entry t k) { items = past ++ (before_entry t k).items })
      ≡ (record { state = (turned t k).state; items = past ++ items_at t.number t.proc (event_of t k).records })

  -- an event has the own part of its entry, and after it the closing, and no other records
  abbrev pub TurnsHaveParts : Type 0
  TurnsHaveParts =
      (w : WorkloadView) (k : KernelState C) (r : Readings) (t : Turn C) → IsWorkload w → IsKept w k r → CanTurn w k r t → HasParts k t (event_of t k)
