-- What is left where a run is stuck: each thread that was made and is not done waits.
use Rattle.std.specs.Prelude.{◌≡◌, ℕ, ◌<◌, false, length, Some}
use Rattle.sa_base.specs.declared.number.SpaceNo.{SpaceNo}
use Rattle.sa_base.specs.declared.number.ThreadNo.{ThreadNo}
use Rattle.sa_base.specs.declared.record.End.TheVariants.{Stuck}
use Rattle.sa_spaces.specs.Workload.{WorkloadView}
use Rattle.sa_sync.specs.Sync.{Waits}
use Rattle.sa_abstract.specs.Calls.{Calls}
use Rattle.sa_core_model.specs.Machine.{Machine}
use Rattle.sa_core_model.specs.End.{end_of}
use Rattle.sa_laws.specs.Ends.{is_done}
use Rattle.sa_laws.specs.State.{State, space_at, thread_at, opening_state}
use Rattle.sa_debug.specs.Views.{state_behind}
use Rattle.sa_debug.specs.Reached.{Reaches}

-- the thread was made, and is not done
pub record IsLeft (a : State) (s : SpaceNo) (t : ThreadNo) : Type 0 where
  pub made : t.0 < length (space_at a s).threads
  pub undone : is_done (thread_at a s t).place ≡ false

-- each of these is in the queue of a mutex, of a semaphore, or of those that join a thread
abbrev pub EachLeftWaits : State → Type 0
EachLeftWaits a = (s : SpaceNo) (t : ThreadNo) → IsLeft a s t → Waits (space_at a s).sync t.0

-- so it is wherever turns lead to a machine that is stuck
abbrev pub StuckThreadsWait : {U C : Type 0} → Calls U C → WorkloadView → (budget : ℕ) → Type 0
StuckThreadsWait {U} {C} f w budget =
    (n : ℕ) (m : Machine U C) → Reaches f w budget n m → end_of f budget m ≡ Some Stuck → EachLeftWaits (state_behind w (opening_state w) m.items)
