-- What the calls of a core keep.
use Rattle.std.proofs.Common.{ℕ, List, [], ◌∷◌, ◌++◌, refl, subst}
use Rattle.sa_base.specs.declared.number.ProcNo.{ProcNo}
use Rattle.sa_spaces.specs.Workload.{WorkloadView, IsWorkload}
use Rattle.sa_laws.specs.Legal.{IsStrictRun, EndOf}
use Rattle.sa_laws.specs.Rules.{fast_threads}
use Rattle.sa_core_model.specs.End.{end_of}
use Rattle.sa_core_model.specs.Run.{opening, Move, CanTurn, CanCommit, IsTurn, IsMove, IsRun}
use Rattle.sa_core_model.specs.Run.Move.{turn, commit}
use Rattle.sa_core_model.specs.Turn.{committed}
use Rattle.sa_core_model.proofs.Runs.{runs-stand}
use Rattle.sa_legal_runs.specs.Commits.{AddsInstructions}
use Rattle.sa_legal_runs.proofs.runs.LegalRuns.{runs-are-legal, runs-end, turns-are-strict, runs-number}
use Rattle.sa_legal_runs.proofs.runs.Instructions.{commit-adds}
use Rattle.sa_package_model.specs.Step.{fast_calls}
use Rattle.sa_fast_laws.proofs.FastLaws.{fast_level}
use Rattle.sa_package_runs.specs.Runs.{FastMachine}
use Rattle.sa_package_runs.specs.Whole.{IsLegalRun}
use Rattle.sa_package_runs.specs.Calls.{IsReached, IsReachedByTurns}
use Rattle.sa_package_runs.proofs.Leading.{turns-push}

run-push : (m : FastMachine) (moves : List Move) (between : FastMachine) (move : Move) (after : FastMachine)
    → IsRun fast_calls m moves between → IsMove fast_calls between move after → IsRun fast_calls m (moves ++ move ∷ []) after
run-push m [] between move after run made = (after, subst (λ (x : FastMachine). IsMove fast_calls x move after) run made, refl)
run-push m (first ∷ moves) between move after run made = (run.0, run.1, run-push run.0 moves between move after run.2 made)

pub start-reaches : (w : WorkloadView) → IsReachedByTurns w (opening fast_calls w)
start-reaches w = record { moves = []; turns = tt; run = refl }

reached-move : (w : WorkloadView) (m : FastMachine) (move : Move) (after : FastMachine) → IsReached w m → IsMove fast_calls m move after → IsReached w after
reached-move w m move after is made =
    record { moves = is.moves ++ move ∷ []; run = run-push (opening fast_calls w) is.moves m move after is.run made }

pub turn-reaches : (w : WorkloadView) (m : FastMachine) (p : ProcNo) (after : FastMachine)
    → IsReached w m → CanTurn fast_calls m p → IsTurn fast_calls m p after → IsReached w after
turn-reaches w m p after is can made = reached-move w m (turn p) after is (can, made)

pub turn-alone-reaches : (w : WorkloadView) (m : FastMachine) (p : ProcNo) (after : FastMachine)
    → IsReachedByTurns w m → CanTurn fast_calls m p → IsTurn fast_calls m p after → IsReachedByTurns w after
turn-alone-reaches w m p after is can made = record {
  moves = is.moves ++ turn p ∷ [];
  turns = turns-push is.moves p is.turns;
  run = run-push (opening fast_calls w) is.moves m (turn p) after is.run (can, made);
}

pub commit-reaches : (w : WorkloadView) (m : FastMachine) (p : ProcNo) (n : ℕ)
    → IsReached w m → CanCommit fast_calls m p n → IsReached w (committed fast_calls p n m)
commit-reaches w m p n is can = reached-move w m (commit p n) (committed fast_calls p n m) is (can, refl)

pub reached-legal : (w : WorkloadView) (m : FastMachine) → IsWorkload w → IsReached w m → IsLegalRun fast_threads w m.items
reached-legal w m ok is =
    record { legal = runs-are-legal fast_level w is.moves m ok is.run; numbers = runs-number fast_level w is.moves m ok is.run }

pub reached-strict : (w : WorkloadView) (m : FastMachine) → IsWorkload w → IsReachedByTurns w m → IsStrictRun fast_threads w m.items
reached-strict w m ok is = turns-are-strict fast_level w is.moves m ok is.turns is.run

pub reached-ends : (w : WorkloadView) (m : FastMachine) (budget : ℕ) → IsWorkload w → IsReached w m
    → EndOf fast_threads w budget m.items (end_of fast_calls budget m)
reached-ends w m budget ok is = runs-end fast_level w is.moves m budget ok is.run

pub commit-adds-instructions : (w : WorkloadView) (m : FastMachine) (p : ProcNo) (n : ℕ) → IsWorkload w → IsReached w m
    → CanCommit fast_calls m p n → AddsInstructions fast_calls m p n
commit-adds-instructions w m p n ok is can =
    commit-adds fast_calls fast_level.stands fast_level.keep m p n
    (runs-stand fast_calls fast_level.stands fast_level.keep w is.moves m ok is.run) can
