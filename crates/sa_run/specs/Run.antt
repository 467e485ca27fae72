-- A whole run: turn by turn in an order of processors, up to its first end.
use Rattle.std.specs.Prelude.{◌≡◌, ℕ, zero, suc, ◌+◌, List, Some, None}
use Rattle.sa_base.specs.declared.record.Item.{Item}
use Rattle.sa_base.specs.declared.record.End.{End}
use Rattle.sa_spaces.specs.Workload.{WorkloadView}
use Rattle.sa_abstract.specs.Calls.{Calls}
use Rattle.sa_assign.specs.Reaim.{proc_no}
use Rattle.sa_sched.specs.Order.{Order, processor_at}
use Rattle.sa_core_model.specs.Machine.{Machine}
use Rattle.sa_core_model.specs.Run.{opening, IsMove}
use Rattle.sa_core_model.specs.Run.Move.{turn}
use Rattle.sa_core_model.specs.End.{end_of}

module _ {U C : Type 0} (f : Calls U C) where
  -- that many turns lead from the opening of the workload to the machine: the k-th is that of the order's k-th processor, and
  -- none comes after an end
  abbrev pub TurnsTo : WorkloadView → Order → ℕ → ℕ → Machine U C → Type 0
  TurnsTo w order budget zero m = m ≡ opening f w
  TurnsTo w order budget (suc k) m =
      (before : Machine U C) × TurnsTo w order budget k before × (end_of f budget before ≡ None)
      × IsMove f before (turn (proc_no (processor_at order w.processors (k + 1)))) m

  -- the run of the workload ends so, after that many events, and these are its items
  pub record RunsTo (w : WorkloadView) (order : Order) (budget : ℕ) (items : List Item) (end : End) (events : ℕ) : Type 0 where
    pub machine : Machine U C
    pub turns : TurnsTo w order budget events machine
    pub shows : items ≡ machine.items
    pub ends : end_of f budget machine ≡ Some end

  -- the run of the workload comes so far
  pub record RunsSoFar (w : WorkloadView) (order : Order) (budget : ℕ) (items : List Item) : Type 0 where
    pub events : ℕ
    pub machine : Machine U C
    pub turns : TurnsTo w order budget events machine
    pub shows : items ≡ machine.items

  -- the same, and it has no end there
  pub record RunsUnended (w : WorkloadView) (order : Order) (budget : ℕ) (items : List Item) : Type 0 where
    pub so_far : RunsSoFar w order budget items
    pub unended : end_of f budget so_far.machine ≡ None
