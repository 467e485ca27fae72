-- What a schedule leads to.
use Rattle.std.specs.Prelude.{◌≡◌, List, Some, Contains}
use Rattle.sa_base.specs.declared.number.ProcNo.{ProcNo}
use Rattle.sa_base.specs.declared.number.SpaceNo.{SpaceNo}
use Rattle.sa_base.specs.declared.number.ThreadNo.{ThreadNo}
use Rattle.sa_base.specs.declared.record.End.TheVariants.{Stuck}
use Rattle.sa_base.specs.declared.record.Item.{Item}
use Rattle.sa_spaces.specs.Workload.{WorkloadView}
use Rattle.sa_abstract.specs.Calls.{Calls}
use Rattle.sa_core_model.specs.Machine.{Machine}
use Rattle.sa_laws.specs.State.{State, opening_state}
use Rattle.sa_debug.specs.Stuck.{IsLeft}
use Rattle.sa_debug.specs.Views.{state_behind}
use Rattle.sa_explore_runs.specs.Runs.{end, LeadTo}
use Rattle.sa_waits.specs.declared.wait.Wait.{Wait}
use Rattle.sa_waits.specs.Waits.{waits_of}

-- each thread that was made and is not done is among these
abbrev pub HaveEach : State → List Wait → Type 0
HaveEach a waits = (s : SpaceNo) (t : ThreadNo) → IsLeft a s t → (wait : Wait) × Contains waits wait × (wait.space ≡ s) × (wait.thread ≡ t)

module _ {U C : Type 0} (f : Calls U C) (w : WorkloadView) where
  -- the items are the history of a machine to which the turns lead
  pub record IsHistory (turns : List ProcNo) (items : List Item) : Type 0 where
    pub machine : Machine U C
    pub lead : LeadTo f w turns machine
    pub is : items ≡ machine.items

  -- these are the threads that wait in a machine to which the turns lead
  pub record AreWaits (turns : List ProcNo) (waits : List Wait) : Type 0 where
    pub machine : Machine U C
    pub lead : LeadTo f w turns machine
    pub are : waits ≡ waits_of (state_behind w (opening_state w) machine.items)

  -- each machine to which the turns lead is stuck
  abbrev pub LeadToStuck : List ProcNo → Type 0
  LeadToStuck turns = (m : Machine U C) → LeadTo f w turns m → end f m ≡ Some Stuck

  -- these are the threads that wait in a stuck machine to which the turns lead: each that was made and is not done
  pub record AreLeft (turns : List ProcNo) (waits : List Wait) : Type 0 where
    pub here : AreWaits turns waits
    pub stuck : end f here.machine ≡ Some Stuck
    pub each : HaveEach (state_behind w (opening_state w) here.machine.items) waits
