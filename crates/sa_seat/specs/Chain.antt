-- A chain of turns and commits, the turns that it has of each processor, and the lines that a trace names.
use Rattle.std.specs.Prelude.{◌≡◌, ℕ, ◌+◌, ◌==◌, if◌then◌else◌, None, List, [], ◌∷◌, Contains}
use Rattle.sa_base.specs.declared.number.ProcNo.{ProcNo}
use Rattle.sa_base.specs.declared.record.Item.{Item}
use Rattle.sa_base.specs.declared.record.Record.TheVariants.{Line}
use Rattle.sa_spaces.specs.Workload.{WorkloadView}
use Rattle.sa_abstract.specs.Calls.{Calls}
use Rattle.sa_assign.specs.Reaim.{proc_no}
use Rattle.sa_core_model.specs.Machine.{Machine}
use Rattle.sa_core_model.specs.End.{end_of}
use Rattle.sa_core_model.specs.Run.{opening, Move, IsMove}
use Rattle.sa_core_model.specs.Run.Move.{turn, commit}

module _ {U C : Type 0} (f : Calls U C) (budget : ℕ) where
  -- the moves lead from one machine to another, and none comes after an end
  abbrev pub Leads : Machine U C → List Move → Machine U C → Type 0
  Leads m [] after = after ≡ m
  Leads m (move ∷ moves) after =
      (between : Machine U C) × (end_of f budget m ≡ None) × IsMove f m move between × Leads between moves after

  -- they lead there from the opening of the workload
  abbrev pub IsChain : WorkloadView → List Move → Machine U C → Type 0
  IsChain w moves m = Leads (opening f w) moves m

  -- some moves led to the machine from the opening of the workload
  pub record IsLed (w : WorkloadView) (m : Machine U C) : Type 0 where
    pub moves : List Move
    pub chain : IsChain w moves m

-- how many events of a processor the moves are
abbrev pub turns_in : ℕ → Move → ℕ
turns_in p (turn q) = if q.0 == p then 1 else 0
turns_in p (commit q n) = if q.0 == p then n else 0

abbrev pub turns_of : ℕ → List Move → ℕ
turns_of p [] = 0
turns_of p (move ∷ moves) = turns_in p move + turns_of p moves

-- the line of processor p was raised at event e, in the turn of some processor
abbrev pub line_item : ℕ → ProcNo → ℕ → Item
line_item e by p = record { event = e; proc = by; what = Line (proc_no p) }

abbrev pub HasLine : List Item → ℕ → ℕ → Type 0
HasLine items e p = (by : ProcNo) × Contains items (line_item e by p)
