use Rattle.sa_shapes.proofs.Ranges.{one_more}
use Rattle.sa_trace_events.specs.Whole.{space_text}
use Rattle.sa_trace_events.proofs.whole.push_spaces.Goals as goal

pub loop-s-preserved : goal.loop-s-preserved
loop-s-preserved c = one_more (space_text c.args.span c.args.items.now c.args.shape) c.loop-s.s _ _ _ c.loop-s.invariant c.in_ok-push_space.ensures
