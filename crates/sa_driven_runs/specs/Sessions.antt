-- What is said of each session with the driven user level.
use Rattle.std.specs.Prelude.{◌≡◌, ℕ, ◌+◌, Some, List, ◌∷◌, length, slice_get}
use Rattle.sa_base.specs.declared.record.End.{End}
use Rattle.sa_spaces.specs.Workload.{WorkloadView, IsWorkload}
use Rattle.sa_assign.specs.Reaim.{proc_no}
use Rattle.sa_laws.specs.Any.{any}
use Rattle.sa_laws.specs.Event.{Event, events_of}
use Rattle.sa_laws.specs.Legal.{IsLegal, IsStrictRun, EndOf, IsRight}
use Rattle.sa_core_model.specs.Machine.{Machine}
use Rattle.sa_core_model.specs.End.{end_of}
use Rattle.sa_core_model.specs.Run.{opening}
use Rattle.sa_legal_runs.specs.Moves.{AreTurns, processors_of, procs_of}
use Rattle.sa_driven_model.specs.declared.context.DrivenContext.{DrivenContext}
use Rattle.sa_driven_model.specs.declared.space.DrivenSpace.{DrivenSpace}
use Rattle.sa_driven_model.specs.Step.{driven_calls}
use Rattle.sa_driven.specs.Replies.{are_alike}
use Rattle.sa_session_runs.specs.Sessions.{SessionMove, IsSession, NotEnded, moves_of}

-- a machine in which each space has the driven user level, and what is done to it
abbrev pub DrivenMachine : Type 0
DrivenMachine = Machine DrivenSpace DrivenContext

abbrev pub DrivenMoves : Type 0
DrivenMoves = List (SessionMove DrivenSpace)

-- from the opening of a workload these moves, and these replies between them, lead to a machine
abbrev pub IsSessionFrom : WorkloadView → DrivenMoves → DrivenMachine → Type 0
IsSessionFrom w moves after = IsSession driven_calls are_alike (opening driven_calls w) moves after

abbrev pub SessionsAreLegal : Type 0
SessionsAreLegal =
    (w : WorkloadView) (moves : DrivenMoves) (after : DrivenMachine) → IsWorkload w → IsSessionFrom w moves after
    → IsLegal any w after.items

abbrev pub SessionsEndAsDefined : Type 0
SessionsEndAsDefined =
    (w : WorkloadView) (moves : DrivenMoves) (after : DrivenMachine) (budget : ℕ) → IsWorkload w → IsSessionFrom w moves after
    → EndOf any w budget after.items (end_of driven_calls budget after)

abbrev pub TurnsAreStrict : Type 0
TurnsAreStrict =
    (w : WorkloadView) (moves : DrivenMoves) (after : DrivenMachine) → IsWorkload w → AreTurns (moves_of moves) → IsSessionFrom w moves after
    → IsStrictRun any w after.items

abbrev pub SessionsAreRight : Type 0
SessionsAreRight =
    (w : WorkloadView) (budget : ℕ) (moves : DrivenMoves) (after : DrivenMachine) (end : End) → IsWorkload w
    → (session : IsSessionFrom w moves after) → NotEnded driven_calls are_alike budget (opening driven_calls w) moves after session
    → end_of driven_calls budget after ≡ Some end
    → IsRight any w after.items (record { end = end; events = after.event })

abbrev pub EventsFollowMoves : Type 0
EventsFollowMoves =
    (w : WorkloadView) (moves : DrivenMoves) (after : DrivenMachine) → IsWorkload w → IsSessionFrom w moves after
    → procs_of (events_of after.items) ≡ proc_no 0 ∷ processors_of (moves_of moves)

abbrev pub EventsAreNumbered : Type 0
EventsAreNumbered =
    (w : WorkloadView) (moves : DrivenMoves) (after : DrivenMachine) → IsWorkload w → IsSessionFrom w moves after
    → (k : ℕ) (e : Event) → slice_get (events_of after.items) k ≡ Some e → e.number ≡ k

abbrev pub EventsAreCounted : Type 0
EventsAreCounted =
    (w : WorkloadView) (moves : DrivenMoves) (after : DrivenMachine) → IsWorkload w → IsSessionFrom w moves after
    → length (events_of after.items) ≡ after.event + 1
