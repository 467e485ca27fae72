-- Runs of the kernel: the opening, and then turns, with fetches of notices between them.
use Rattle.std.specs.Prelude.{◌≡◌, List, [], ◌∷◌, ◌++◌, Option, Some, None}
use Rattle.sa_base.specs.Items.{items_at}
use Rattle.sa_spaces.specs.Workload.{WorkloadView, IsWorkload}
use Rattle.sa_kernel_model.specs.State.{KernelState, Scene}
use Rattle.sa_kernel_model.specs.Entries.{after_fetch, evicted_at}
use Rattle.sa_kernel_model.specs.Opening.{opened}
use Rattle.sa_laws.specs.Event.{Event, items_of}
use Rattle.sa_laws.specs.Readings.{Readings, opening_readings}
use Rattle.sa_laws.specs.History.{Test, after_event}
use Rattle.sa_laws.specs.Opening.{opening_event}
use Rattle.sa_kernel_laws.specs.Turn.{Turn, CanTurn, turned, turn_on, event_of}
use Rattle.sa_kernel_laws.specs.Laws.{AllHold}

module _ {C : Type 0} where
  -- what a turn, or else the fetch of a notice, does over the whole trace; before a turn the pages that are evicted are
  -- absent, and the user level has recorded what it does
  abbrev pub moved : Option (Turn C) → Scene C → Scene C
  moved None x = record x { state = after_fetch x.state.telling x.state }
  moved (Some t) x =
      turn_on t.number t.proc t.fresh t.entry (record {
        state = evicted_at t.number x.state;
        items = x.items ++ items_at t.number t.proc t.says;
      })

  abbrev pub moved_all : List (Option (Turn C)) → Scene C → Scene C
  moved_all [] x = x
  moved_all (move ∷ moves) x = moved_all moves (moved move x)

  -- the events of the turns, in order
  abbrev pub events : List (Option (Turn C)) → KernelState C → List Event
  events [] k = []
  events (None ∷ moves) k = events moves (after_fetch k.telling k)
  events (Some t ∷ moves) k = event_of t k ∷ events moves (turned t k).state

  -- each turn can be taken
  abbrev pub CanMove : Test → WorkloadView → KernelState C → Readings → List (Option (Turn C)) → Type 0
  CanMove test w k r [] = Unit {0}
  CanMove test w k r (None ∷ moves) = CanMove test w (after_fetch k.telling k) r moves
  CanMove test w k r (Some t ∷ moves) = CanTurn w k r t × CanMove test w (turned t k).state (after_event test w r (event_of t k)) moves

-- the kernel's laws hold at each event
abbrev pub AllHoldFrom : Test → WorkloadView → Readings → List Event → Type 0
AllHoldFrom test w r [] = Unit {0}
AllHoldFrom test w r (e ∷ es) = AllHold test w r e × AllHoldFrom test w (after_event test w r e) es

-- what is read after the opening
abbrev pub read_opening : Test → WorkloadView → Readings
read_opening test w = after_event test w (opening_readings w) (opening_event w)

module _ (C : Type 0) where
  -- Whatever the user level does: in each run from the opening, each of whose turns can be taken, the kernel's laws hold
  -- at each event ..
  abbrev pub RunsAreLawful : Type 0
  RunsAreLawful =
      (test : Test) (w : WorkloadView) (moves : List (Option (Turn C))) → IsWorkload w → CanMove test w (opened {C = C} w).state (read_opening test w) moves
      → AllHoldFrom test w (opening_readings w) (opening_event w ∷ events moves (opened {C = C} w).state)

  -- The events of a run are the events of its trace.
  abbrev pub RunsAreTheirEvents : Type 0
  RunsAreTheirEvents =
      (test : Test) (w : WorkloadView) (moves : List (Option (Turn C))) → IsWorkload w → CanMove test w (opened {C = C} w).state (read_opening test w) moves
      → (moved_all moves (opened {C = C} w)).items ≡ items_of (opening_event w ∷ events moves (opened {C = C} w).state)
