-- How an instruction changes the threads of its space, whichever it is.
use Rattle.std.specs.Prelude.{◌≡◌, ℕ, ◌+◌, ◌≤◌, ◌⊎◌, false, List, [], ◌∷◌, ◌++◌, length, slice_set}
use Rattle.sa_base.specs.declared.number.ThreadNo.{ThreadNo}
use Rattle.sa_base.specs.declared.limits.TheConstants.{MAX_THREADS}
use Rattle.sa_sync.specs.Sync.{Sync, Waits}
use Rattle.sa_sync.specs.Laws.{SameNumbers}
use Rattle.sa_laws.specs.declared.place.Place.{Place}
use Rattle.sa_laws.specs.declared.place.Place.TheVariants.{Waiting}
use Rattle.sa_laws.specs.State.{Thread, SpaceState, at_start}
use Rattle.sa_replay.specs.Running.{is_running}

-- a thread stays where it is, or runs no more
abbrev pub StaysOrRests : Place → Place → Type 0
StaysOrRests old new = (new ≡ old) ⊎ (is_running new ≡ false)

-- no thread is made, or one that waits
abbrev pub IsForked : List Thread → Type 0
IsForked more = (more ≡ []) ⊎ ((program : ℕ) × (more ≡ at_start program Waiting ∷ []))

-- a thread in a queue was in one before, or is thread t, which waits
abbrev pub TellsWaiting : Sync → Sync → ℕ → Place → Type 0
TellsWaiting old new t place = (u : ℕ) → Waits new u → Waits old u ⊎ ((u ≡ t) × (place ≡ Waiting))

-- thread t, which was this one, is another, and at most one thread is made
pub record IsShaped (x : SpaceState) (t : ThreadNo) (place : Place) (new : SpaceState) : Type 0 where
  pub after : Thread
  pub more : List Thread
  pub threads : new.threads ≡ slice_set x.threads t.0 after ++ more
  pub forked : IsForked more
  pub few : length x.threads ≤ MAX_THREADS → length x.threads + length more ≤ MAX_THREADS
  pub goes : StaysOrRests place after.place
  pub waits : TellsWaiting x.sync new.sync t.0 after.place
  pub numbers : SameNumbers x.sync new.sync
