-- What always holds of a replay.
use Rattle.std.specs.Prelude.{◌≡◌, ℕ, ◌<◌, List, Option, length, slice_index_or}
use Rattle.sa_base.specs.declared.number.SpaceNo.{SpaceNo}
use Rattle.sa_spaces.specs.Space.{SpaceView}
use Rattle.sa_spaces.specs.Workload.{WorkloadView}
use Rattle.sa_laws.specs.State.{SpaceState, Runner, no_space, no_threads}
use Rattle.sa_replay.specs.Running.{HasDeclared}
use Rattle.sa_replay.specs.Spaces.{place_in}
use Rattle.sa_replay.specs.Index.{IsIndex}

-- each space has what the workload declares
abbrev pub AreDeclared : List SpaceView → List SpaceState → Type 0
AreDeclared defs spaces =
    (s : ℕ) → s < length spaces → HasDeclared (slice_index_or defs s no_space) (slice_index_or spaces s no_threads).sync

-- the spaces are those of the workload, and the index tells who runs on each of as many processors as have an owner
pub record IsReplay (w : WorkloadView) (spaces : List SpaceState) (owners : List (Option SpaceNo)) (runners : List (Option Runner)) : Type 0 where
  pub as_many : length spaces ≡ length w.spaces
  pub declared : AreDeclared w.spaces spaces
  pub processors : length runners ≡ length owners
  pub index : IsIndex (place_in spaces) runners
