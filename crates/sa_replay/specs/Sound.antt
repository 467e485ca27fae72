-- What always holds of the threads of a space.
use Rattle.std.specs.Prelude.{◌≡◌, ◌≤◌, length}
use Rattle.sa_base.specs.declared.number.ThreadNo.{ThreadNo}
use Rattle.sa_base.specs.declared.limits.TheConstants.{MAX_THREADS}
use Rattle.sa_sync.specs.Sync.{Waits}
use Rattle.sa_laws.specs.declared.place.Place.TheVariants.{Waiting}
use Rattle.sa_laws.specs.State.{SpaceState, thread_in}

-- there are no more threads than a space can have, and a thread in a queue waits
pub record IsSound (x : SpaceState) : Type 0 where
  pub few : length x.threads ≤ MAX_THREADS
  pub joiners : length x.sync.joiners ≡ MAX_THREADS
  pub waiting : (u : ThreadNo) → Waits x.sync u.0 → (thread_in x u).place ≡ Waiting
