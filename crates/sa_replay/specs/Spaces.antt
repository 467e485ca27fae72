-- The threads of all spaces, by the numbers of the spaces.
use Rattle.std.specs.Prelude.{◌≡◌, ℕ, ◌≤◌, not, List, length, count_by, slice_index_or, slice_set}
use Rattle.sa_base.specs.declared.number.SpaceNo.{SpaceNo}
use Rattle.sa_base.specs.declared.number.ThreadNo.{ThreadNo}
use Rattle.sa_base.specs.declared.limits.TheConstants.{MAX_SPACES}
use Rattle.sa_spaces.specs.Space.{SpaceView}
use Rattle.sa_laws.specs.declared.place.Place.{Place}
use Rattle.sa_laws.specs.State.{SpaceState, thread_in, no_threads}
use Rattle.sa_laws.specs.Effect.{Effect, effect_of}
use Rattle.sa_laws.specs.Ends.{are_done, are_at_rest}
use Rattle.sa_replay.specs.Running.{instr_in}
use Rattle.sa_replay.specs.Shape.{IsShaped}

abbrev pub space_in : List SpaceState → SpaceNo → SpaceState
space_in spaces s = slice_index_or spaces s.0 no_threads

abbrev pub with_space_in : List SpaceState → SpaceNo → SpaceState → List SpaceState
with_space_in spaces s x = slice_set spaces s.0 x

-- where a thread is; one that was not made counts as done
abbrev pub place_in : List SpaceState → SpaceNo → ThreadNo → Place
place_in spaces s t = (thread_in (space_in spaces s) t).place

-- what the next instruction of a thread does to its space
abbrev pub run_of : SpaceView → SpaceState → ThreadNo → Effect
run_of def x t = effect_of x t (thread_in x t) (instr_in def (thread_in x t))

-- how many spaces have a thread that is not done, and how many one that is ready, runs or is carried
abbrev pub live_in : List SpaceState → ℕ
live_in spaces = count_by (λ (x : SpaceState). not (are_done x)) spaces

abbrev pub restless_in : List SpaceState → ℕ
restless_in spaces = count_by (λ (x : SpaceState). not (are_at_rest x)) spaces

-- these are the counts, and there are no more spaces than a workload can have
pub record IsCounted (spaces : List SpaceState) (live restless : ℕ) : Type 0 where
  pub few : length spaces ≤ MAX_SPACES
  pub lives : live ≡ live_in spaces
  pub restless_ones : restless ≡ restless_in spaces

-- a thread has run its next instruction, of the space that is declared so
pub record HasRun (old : List SpaceState) (def : SpaceView) (s : SpaceNo) (t : ThreadNo) (new : List SpaceState) (roused : List ThreadNo) : Type 0 where
  pub spaces : new ≡ with_space_in old s (run_of def (space_in old s) t).space
  pub woken : roused ≡ (run_of def (space_in old s) t).roused
  pub shape : IsShaped (space_in old s) t (place_in old s t) (run_of def (space_in old s) t).space
