use Rattle.std.proofs.Common.{arith, ap, ◌∙◌}
use Rattle.sa_replay.specs.Replayed.{Replayed}
use Rattle.sa_laws.specs.State.{opening_state}
use Rattle.sa_debug.proofs.Playing.{can-change, behind-change}
use Rattle.sa_debug.proofs.follow.Follower.follow.Goals as goal

pub change-requires : goal.change-requires
change-requires c =
    can-change c.loop-self.self-inside.replay.workload c.args.self.now.workload c.loop-self.self-inside.replay.state (opening_state c.args.self.now.workload)
    c.args.items.now c.loop-self.self-inside.taken _ c.loop-self.invariant.workload c.loop-self.invariant.state c.requires.plays c.loop-self-test.true

pub loop-self-preserved : goal.loop-self-preserved
loop-self-preserved c = record {
  workload = ap (λ (r : Replayed). r.workload) c.in_ok-change.ensures.ok ∙ c.loop-self.invariant.workload;
  few = omega arith;
  state =
      behind-change c.loop-self.self-inside.replay.workload c.args.self.now.workload c.loop-self.self-inside.replay.state
      (opening_state c.args.self.now.workload)
      c.change.new.self.state c.args.items.now c.loop-self.self-inside.taken _ c.loop-self.invariant.workload c.loop-self.invariant.state c.loop-self-test.true
      (ap (λ (r : Replayed). r.state) c.in_ok-change.ensures.ok);
}
