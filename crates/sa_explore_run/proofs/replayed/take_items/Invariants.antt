use Rattle.std.proofs.Common.{◌≡◌, take}
use Rattle.sa_laws.specs.State.{opening_state}
use Rattle.sa_debug.specs.Views.{state_behind}
use Rattle.sa_explore_run.proofs.replayed.take_items.Given as goal

-- the replay has come through the items before this one
abbrev pub invariant-loop-item : goal.invariant-loop-item
invariant-loop-item l = record {
  workload : l.replay.workload ≡ l.initial.replay.workload;
  state : l.replay.state ≡ state_behind l.initial.replay.workload (opening_state l.initial.replay.workload) (take l.item-index l.items);
}
