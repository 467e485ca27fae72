-- What is told of a search.
use Rattle.std.specs.Prelude.{◌≡◌, ℕ, ◌<◌, List, [], Option, Some, None, IfSome, All}
use Rattle.sa_spaces.specs.Space.{SpaceView}
use Rattle.sa_spaces.specs.Workload.{WorkloadView}
use Rattle.sa_abstract.specs.Calls.{Calls}
use Rattle.sa_explore_model.specs.declared.answer.Found.{Found}
use Rattle.sa_explore_model.specs.declared.answer.Explored.{Explored}
use Rattle.sa_explore.specs.Explored.{IsExplored}
use Rattle.sa_explore_run.specs.Behind.{AreLeft}
use Rattle.sa_waits.specs.declared.wait.Wait.{Wait}

-- those that wait at the end of the schedule to a stuck end, each thread that is left; none where no such end was found
abbrev pub AreStuckWaits : {U C : Type 0} → Calls U C → WorkloadView → Option Found → List Wait → Type 0
AreStuckWaits f w None waits = waits ≡ []
AreStuckWaits f w (Some found) waits = AreLeft f w found.schedule.items waits

-- a schedule is of the workload's processors
abbrev pub IsWithin : WorkloadView → Found → Type 0
IsWithin w found = All (λ p. p.0 < w.processors) found.schedule.items

-- the same of each schedule that was found
pub record AreWithin (w : WorkloadView) (x : Explored) : Type 0 where
  pub all_done : IfSome x.all_done (IsWithin w)
  pub stuck : IfSome x.stuck (IsWithin w)
  pub endless : IfSome x.endless (IsWithin w)

-- the search's answer, and those that wait
pub record IsAnswer {U C D : Type 0} (f : Calls U C) (plain : Option SpaceView → C → D) (w : WorkloadView) (most : ℕ) (x : Explored) (waiting : List Wait)
    : Type 0 where
  pub explored : IsExplored f plain w most x
  pub waits : AreStuckWaits f w x.stuck waiting
  pub within : AreWithin w x
