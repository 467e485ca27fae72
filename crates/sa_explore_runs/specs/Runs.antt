-- The runs of a workload that are gone through: first its turn lines are done, in order, and then turns in any order, up to an end.
use Rattle.std.specs.Prelude.{◌≡◌, ℕ, ◌<◌, ◌≤◌, if◌then◌else◌, List, [], ◌++◌, length, take, All, Option, Some, None}
use Rattle.sa_base.specs.declared.limits.TheConstants.{MAX_EVENTS}
use Rattle.sa_base.specs.declared.number.ProcNo.{ProcNo}
use Rattle.sa_base.specs.declared.record.End.{End}
use Rattle.sa_base.specs.declared.record.End.TheVariants.{AllDone, Stuck}
use Rattle.sa_spaces.specs.Workload.{WorkloadView}
use Rattle.sa_abstract.specs.Calls.{Calls}
use Rattle.sa_core_model.specs.Machine.{Machine}
use Rattle.sa_core_model.specs.End.{all_done, is_stuck}
use Rattle.sa_core_model.specs.Run.{opening, CanTurn, IsTurn}
use Rattle.sa_outlook.specs.Search.{AreOpenTurns}

module _ {U C : Type 0} (f : Calls U C) where
  -- how runs end at a machine, however many events they have had
  abbrev pub end : Machine U C → Option End
  end m = if all_done f m then Some AllDone else if is_stuck f m then Some Stuck else None

  -- a turn, where the run has no end
  pub record IsOpenTurn (m : Machine U C) (p : ProcNo) (after : Machine U C) : Type 0 where
    pub goes : end m ≡ None
    pub can : CanTurn f m p
    pub is : IsTurn f m p after

  -- turns of these processors lead there from the opening of the workload, none after an end
  abbrev pub LeadTo : WorkloadView → List ProcNo → Machine U C → Type 0
  LeadTo w turns m = AreOpenTurns f turns (opening f w) m

  -- the first turns of each run: those of the workload's turn lines, or as many of them as come before an end
  pub record IsBegun (w : WorkloadView) (begun : List ProcNo) : Type 0 where
    pub rest : List ProcNo
    pub are : w.turns ≡ begun ++ rest
    pub machine : Machine U C
    pub lead : LeadTo w begun machine
    pub whole : end machine ≡ None → rest ≡ []

  -- after them, turns of these processors lead to a machine
  abbrev pub IsWay : WorkloadView → List ProcNo → List ProcNo → Machine U C → Type 0
  IsWay w begun turns m = LeadTo w (begun ++ turns) m

  -- some machine is led to by these turns
  abbrev pub CanLead : WorkloadView → List ProcNo → Type 0
  CanLead w turns = (m : Machine U C) × LeadTo w turns m

  -- runs go on at each machine to which these turns lead
  abbrev pub IsOpen : WorkloadView → List ProcNo → Type 0
  IsOpen w turns = (m : Machine U C) → LeadTo w turns m → end m ≡ None

  -- the turns are of the workload's processors, as many as a run may have, and no run ends before the last of them
  pub record CanBeRun (w : WorkloadView) (turns : List ProcNo) : Type 0 where
    pub few : length turns ≤ MAX_EVENTS
    pub within : All (λ p. p.0 < w.processors) turns
    pub open_before : (n : ℕ) → n < length turns → IsOpen w (take n turns)
