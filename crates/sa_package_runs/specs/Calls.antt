-- What the calls of a core keep where each space has FastThreads: whoever starts one, and makes turns and commits, has a legal
-- history at each moment. Each is said of the function that the call's own contract is an equation to.
use Rattle.std.specs.Prelude.{ℕ, List}
use Rattle.sa_base.specs.declared.number.ProcNo.{ProcNo}
use Rattle.sa_spaces.specs.Workload.{WorkloadView, IsWorkload}
use Rattle.sa_laws.specs.Legal.{IsStrictRun, EndOf}
use Rattle.sa_laws.specs.Rules.{fast_threads}
use Rattle.sa_core_model.specs.End.{end_of}
use Rattle.sa_core_model.specs.Run.{opening, Move, CanTurn, CanCommit, IsTurn}
use Rattle.sa_core_model.specs.Turn.{committed}
use Rattle.sa_legal_runs.specs.Moves.{AreTurns}
use Rattle.sa_legal_runs.specs.Commits.{AddsInstructions}
use Rattle.sa_package_model.specs.Step.{fast_calls}
use Rattle.sa_package_runs.specs.Runs.{FastMachine, IsRunFrom}
use Rattle.sa_package_runs.specs.Whole.{IsLegalRun}

-- turns and commits led from the opening of the workload to the machine; turns alone did
pub record IsReached (w : WorkloadView) (m : FastMachine) : Type 0 where
  pub moves : List Move
  pub run : IsRunFrom w moves m

pub record IsReachedByTurns (w : WorkloadView) (m : FastMachine) : Type 0 where
  pub moves : List Move
  pub turns : AreTurns moves
  pub run : IsRunFrom w moves m

-- the calls lead on: `start`, `turn` and `commit`
abbrev pub StartReaches : Type 0
StartReaches = (w : WorkloadView) → IsReachedByTurns w (opening fast_calls w)

abbrev pub TurnsReach : Type 0
TurnsReach =
    (w : WorkloadView) (m : FastMachine) (p : ProcNo) (after : FastMachine)
    → IsReached w m → CanTurn fast_calls m p → IsTurn fast_calls m p after → IsReached w after

abbrev pub TurnsAloneReach : Type 0
TurnsAloneReach =
    (w : WorkloadView) (m : FastMachine) (p : ProcNo) (after : FastMachine)
    → IsReachedByTurns w m → CanTurn fast_calls m p → IsTurn fast_calls m p after → IsReachedByTurns w after

abbrev pub CommitsReach : Type 0
CommitsReach =
    (w : WorkloadView) (m : FastMachine) (p : ProcNo) (n : ℕ)
    → IsReached w m → CanCommit fast_calls m p n → IsReached w (committed fast_calls p n m)

-- what the moves reach is legal, strict where it was reached by turns alone, and ends as the definitions say
abbrev pub ReachedAreLegal : Type 0
ReachedAreLegal = (w : WorkloadView) (m : FastMachine) → IsWorkload w → IsReached w m → IsLegalRun fast_threads w m.items

abbrev pub ReachedAreStrict : Type 0
ReachedAreStrict =
    (w : WorkloadView) (m : FastMachine) → IsWorkload w → IsReachedByTurns w m → IsStrictRun fast_threads w m.items

abbrev pub ReachedEndAsDefined : Type 0
ReachedEndAsDefined =
    (w : WorkloadView) (m : FastMachine) (budget : ℕ) → IsWorkload w → IsReached w m
    → EndOf fast_threads w budget m.items (end_of fast_calls budget m)

-- a commit adds exactly the records of the instructions, as they are defined on the programs of the workload
abbrev pub CommitsAddInstructions : Type 0
CommitsAddInstructions =
    (w : WorkloadView) (m : FastMachine) (p : ProcNo) (n : ℕ) → IsWorkload w → IsReached w m → CanCommit fast_calls m p n
    → AddsInstructions fast_calls m p n
