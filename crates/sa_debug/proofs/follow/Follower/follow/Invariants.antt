use Rattle.std.proofs.Common.{length, ◌-◌, ◌≡◌, ◌≤◌, take}
use Rattle.sa_laws.specs.State.{opening_state}
use Rattle.sa_debug.specs.Views.{state_behind}
use Rattle.sa_debug.proofs.follow.Follower.follow.Given as goal

-- the replay has come through the items that were taken
abbrev pub invariant-loop-self : goal.invariant-loop-self
invariant-loop-self l = record {
  workload : l.self-inside.replay.workload ≡ l.fn.self.workload;
  few : l.self-inside.taken ≤ length l.items;
  state : l.self-inside.replay.state ≡ state_behind l.fn.self.workload (opening_state l.fn.self.workload) (take l.self-inside.taken l.items);
}

abbrev pub decreases-loop-self : goal.decreases-loop-self
decreases-loop-self l = length l.items - l.self-inside.taken
