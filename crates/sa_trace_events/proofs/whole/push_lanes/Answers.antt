use Rattle.sa_shapes.proofs.Ranges.{one_more}
use Rattle.sa_trace_events.specs.Whole.{lane_text}
use Rattle.sa_trace_events.proofs.whole.push_lanes.Goals as goal

pub loop-p-preserved : goal.loop-p-preserved
loop-p-preserved c = one_more (lane_text c.args.span c.args.items.now) c.loop-p.p _ _ _ c.loop-p.invariant c.in_ok-push_lane.ensures
