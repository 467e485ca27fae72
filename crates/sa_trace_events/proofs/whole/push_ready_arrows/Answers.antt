use Rattle.sa_shapes.proofs.Ranges.{one_more}
use Rattle.sa_trace_events.specs.Whole.{space_ends}
use Rattle.sa_trace_events.proofs.whole.push_ready_arrows.Goals as goal

pub loop-s-preserved : goal.loop-s-preserved
loop-s-preserved c = one_more (space_ends c.args.items.now c.args.shape.threads) c.loop-s.s _ _ _ c.loop-s.invariant c.in_ok-push_space_arrows.ensures
