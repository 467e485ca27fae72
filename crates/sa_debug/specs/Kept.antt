-- What always holds of a session.
use Rattle.std.specs.Prelude.{◌≡◌, ℕ, ◌≤◌}
use Rattle.sa_base.specs.declared.limits.TheConstants.{MAX_EVENTS}
use Rattle.sa_spaces.specs.Workload.{WorkloadView, IsWorkload}
use Rattle.sa_abstract.specs.Calls.{Calls}
use Rattle.sa_core.specs.View.{CoreView, machine}
use Rattle.sa_debug.specs.Reached.{Reaches, IsPlayable}
use Rattle.sa_debug.specs.Views.{Followed, IsBehind}

-- its machine was reached by turns from the opening of a workload, and its replay has taken the first items of the trace
pub record IsKept {U C : Type 0} (f : Calls U C) (core : CoreView U C) (follower : Followed) : Type 0 where
  pub workload : WorkloadView
  pub ok : IsWorkload workload
  pub is : (machine core).workload ≡ workload
  pub playable : IsPlayable f workload core.budget
  pub few : core.budget ≤ MAX_EVENTS
  pub within : (machine core).event ≤ core.budget
  pub turns : ℕ
  pub reached : Reaches f workload core.budget turns (machine core)
  pub follows : follower.workload ≡ workload
  pub behind : IsBehind follower (machine core).items
