use Rattle.std.proofs.Common.{◌∙◌, ap}
use Rattle.sa_replay.specs.Replayed.{Replayed}
use Rattle.sa_laws.specs.State.{opening_state}
use Rattle.sa_debug.proofs.Playing.{can-change, behind-change}
use Rattle.sa_explore_run.proofs.replayed.take_items.Goals as goal

pub change-requires : goal.change-requires
change-requires c =
    can-change c.loop-item.replay.workload c.args.replay.now.workload c.loop-item.replay.state (opening_state c.args.replay.now.workload) c.args.items.now
    c.loop-item.item-index _ c.loop-item.invariant.workload c.loop-item.invariant.state c.requires.plays c.loop-item-test.true

pub loop-item-preserved : goal.loop-item-preserved
loop-item-preserved c = record {
  workload = ap (λ (r : Replayed). r.workload) c.in_ok-change.ensures.ok ∙ c.loop-item.invariant.workload;
  state =
      behind-change c.loop-item.replay.workload c.args.replay.now.workload c.loop-item.replay.state (opening_state c.args.replay.now.workload) c.change.new.self.state
      c.args.items.now c.loop-item.item-index _ c.loop-item.invariant.workload c.loop-item.invariant.state c.loop-item-test.true
      (ap (λ (r : Replayed). r.state) c.in_ok-change.ensures.ok);
}
