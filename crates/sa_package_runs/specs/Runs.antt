-- What is said of each run of the machine with FastThreads.
use Rattle.std.specs.Prelude.{◌≡◌, ℕ, ◌+◌, Some, List, ◌∷◌, length, slice_get}
use Rattle.sa_base.specs.declared.record.End.{End}
use Rattle.sa_spaces.specs.Workload.{WorkloadView, IsWorkload}
use Rattle.sa_assign.specs.Reaim.{proc_no}
use Rattle.sa_laws.specs.Event.{Event, events_of}
use Rattle.sa_laws.specs.Legal.{IsLegal, IsStrictRun, EndOf, IsRight}
use Rattle.sa_laws.specs.Rules.{fast_threads}
use Rattle.sa_core_model.specs.Machine.{Machine}
use Rattle.sa_core_model.specs.End.{end_of}
use Rattle.sa_core_model.specs.Run.{opening, Move, IsRun}
use Rattle.sa_legal_runs.specs.Moves.{AreTurns, NotEnded, processors_of, procs_of}
use Rattle.sa_package_model.specs.declared.package.Package.{Package}
use Rattle.sa_package_model.specs.declared.context.Context.{Context}
use Rattle.sa_package_model.specs.Step.{fast_calls}

-- a machine in which each space has FastThreads
abbrev pub FastMachine : Type 0
FastMachine = Machine Package Context

-- from the opening of a workload these moves lead to a machine
abbrev pub IsRunFrom : WorkloadView → List Move → FastMachine → Type 0
IsRunFrom w moves after = IsRun fast_calls (opening fast_calls w) moves after

abbrev pub RunsAreLegal : Type 0
RunsAreLegal =
    (w : WorkloadView) (moves : List Move) (after : FastMachine) → IsWorkload w → IsRunFrom w moves after
    → IsLegal fast_threads w after.items

abbrev pub RunsEndAsDefined : Type 0
RunsEndAsDefined =
    (w : WorkloadView) (moves : List Move) (after : FastMachine) (budget : ℕ) → IsWorkload w → IsRunFrom w moves after
    → EndOf fast_threads w budget after.items (end_of fast_calls budget after)

abbrev pub TurnsAreStrict : Type 0
TurnsAreStrict =
    (w : WorkloadView) (moves : List Move) (after : FastMachine) → IsWorkload w → AreTurns moves → IsRunFrom w moves after
    → IsStrictRun fast_threads w after.items

abbrev pub RunsAreRight : Type 0
RunsAreRight =
    (w : WorkloadView) (budget : ℕ) (moves : List Move) (after : FastMachine) (end : End) → IsWorkload w
    → (run : IsRunFrom w moves after) → NotEnded fast_calls budget (opening fast_calls w) moves after run
    → end_of fast_calls budget after ≡ Some end
    → IsRight fast_threads w after.items (record { end = end; events = after.event })

abbrev pub EventsFollowMoves : Type 0
EventsFollowMoves =
    (w : WorkloadView) (moves : List Move) (after : FastMachine) → IsWorkload w → IsRunFrom w moves after
    → procs_of (events_of after.items) ≡ proc_no 0 ∷ processors_of moves

abbrev pub EventsAreNumbered : Type 0
EventsAreNumbered =
    (w : WorkloadView) (moves : List Move) (after : FastMachine) → IsWorkload w → IsRunFrom w moves after
    → (k : ℕ) (e : Event) → slice_get (events_of after.items) k ≡ Some e → e.number ≡ k

abbrev pub EventsAreCounted : Type 0
EventsAreCounted =
    (w : WorkloadView) (moves : List Move) (after : FastMachine) → IsWorkload w → IsRunFrom w moves after
    → length (events_of after.items) ≡ after.event + 1
