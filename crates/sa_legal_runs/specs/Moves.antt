-- The moves of a run, and the events that they make.
use Rattle.std.specs.Prelude.{◌≡◌, ℕ, List, [], ◌∷◌, ◌++◌, None, map, replicate}
use Rattle.sa_base.specs.declared.number.ProcNo.{ProcNo}
use Rattle.sa_abstract.specs.Calls.{Calls}
use Rattle.sa_laws.specs.Event.{Event}
use Rattle.sa_core_model.specs.Machine.{Machine}
use Rattle.sa_core_model.specs.End.{end_of}
use Rattle.sa_core_model.specs.Run.{Move, IsRun}
use Rattle.sa_core_model.specs.Run.Move.{turn, commit}

-- all moves are turns
abbrev pub AreTurns : List Move → Type 0
AreTurns [] = Unit {0}
AreTurns (turn p ∷ moves) = AreTurns moves
AreTurns (commit p n ∷ moves) = ⊥

-- the processors of the events that moves make, in order, where a commit of n instructions makes n; and those of events
abbrev pub processors_of : List Move → List ProcNo
processors_of [] = []
processors_of (turn p ∷ moves) = p ∷ processors_of moves
processors_of (commit p n ∷ moves) = replicate n p ++ processors_of moves

abbrev pub procs_of : List Event → List ProcNo
procs_of events = map (λ (e : Event). e.proc) events

-- before each move of a run the machine had not ended
abbrev pub NotEnded : {U C : Type 0} (f : Calls U C) → ℕ → (m : Machine U C) (moves : List Move) (after : Machine U C) → IsRun f m moves after → Type 0
NotEnded f budget m [] after run = Unit {0}
NotEnded f budget m (move ∷ moves) after run = (end_of f budget m ≡ None) × NotEnded f budget run.0 moves after run.2
