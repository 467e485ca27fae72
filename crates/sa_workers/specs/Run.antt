-- What a run on host threads comes to.
use Rattle.std.specs.Prelude.{◌≡◌, ℕ, ◌<◌, ◌≤◌, Some, None, List, sum, slice_index_or}
use Rattle.sa_base.specs.declared.record.End.TheVariants.{Budget}
use Rattle.sa_spaces.specs.Workload.{WorkloadView}
use Rattle.sa_abstract.specs.Calls.{Calls}
use Rattle.sa_core_model.specs.Machine.{Machine}
use Rattle.sa_core_model.specs.End.{end_of}
use Rattle.sa_core_model.specs.Run.{Move}
use Rattle.sa_seat.specs.Chain.{IsChain, turns_of}
use Rattle.sa_seat.specs.Closed.{ClosedView}
use Rattle.sa_workers.specs.Quota.{quota_of}

-- how many events a processor had
abbrev pub turns_at : ClosedView → ℕ → ℕ
turns_at closed p = slice_index_or closed.turns p 0

-- a processor whose quota is not used up
pub record HasQuotaLeft (w : WorkloadView) (budget : ℕ) (closed : ClosedView) : Type 0 where
  pub p : ℕ
  pub processor : p < w.processors
  pub fewer : turns_at closed p < quota_of w.processors p budget

module _ {U C : Type 0} (f : Calls U C) where
  -- turns and commits led from the opening to the machine, none of them after an end, and this is its history
  pub record HasRun (w : WorkloadView) (budget : ℕ) (closed : ClosedView) : Type 0 where
    pub moves : List Move
    pub machine : Machine U C
    pub chain : IsChain f budget w moves machine
    pub shows : closed.items ≡ machine.items
    pub end : closed.end ≡ end_of f budget machine
    pub turns : (p : ℕ) → p < w.processors → turns_at closed p ≡ turns_of p moves
    pub none : (p : ℕ) → w.processors ≤ p → turns_at closed p ≡ 0
    pub events : sum closed.turns ≡ machine.event
    pub few : machine.event ≤ budget
    -- no processor has more events than its quota, and where the budget ends the run each has just its quota
    pub within : (p : ℕ) → p < w.processors → turns_at closed p ≤ quota_of w.processors p budget
    pub spent : closed.end ≡ Some Budget → (p : ℕ) → p < w.processors → turns_at closed p ≡ quota_of w.processors p budget
    -- without an end the run goes on: some processor has events left of its quota
    pub left : closed.end ≡ None → HasQuotaLeft w budget closed
