-- What is shown of a thread, and the state of the abstract machine after some items.
use Rattle.std.specs.Prelude.{◌≡◌, ℕ, ◌≤◌, List, [], ◌∷◌, length, take, Option, slice_get}
use Rattle.std.specs.Option.{option_map}
use Rattle.sa_base.specs.declared.number.SpaceNo.{SpaceNo}
use Rattle.sa_base.specs.declared.number.ThreadNo.{ThreadNo}
use Rattle.sa_base.specs.declared.record.Item.{Item}
use Rattle.sa_spaces.specs.Workload.{WorkloadView}
use Rattle.sa_laws.specs.State.{State, Thread, space_at, opening_state}
use Rattle.sa_laws.specs.Machine.{changed}
use Rattle.sa_debug.specs.declared.script.reply.View.{View}

abbrev pub view_of : Thread → View
view_of thread = record { place = thread.place; pc = thread.pc; regs = thread.regs }

-- a thread that was made
abbrev pub view_in : State → SpaceNo → ThreadNo → Option View
view_in a s t = option_map view_of (slice_get (space_at a s).threads t.0)

-- the state after these items
abbrev pub state_behind : WorkloadView → State → List Item → State
state_behind w a [] = a
state_behind w a (x ∷ xs) = state_behind w (changed w x.proc a x.what) xs

-- what has taken the first items of a trace, and the state after them
pub record Followed : Type 0 where
  pub workload : WorkloadView
  pub state : State
  pub taken : ℕ

pub record IsBehind (f : Followed) (items : List Item) : Type 0 where
  pub few : f.taken ≤ length items
  pub state : f.state ≡ state_behind f.workload (opening_state f.workload) (take f.taken items)
