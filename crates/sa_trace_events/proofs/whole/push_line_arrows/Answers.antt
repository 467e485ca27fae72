use Rattle.sa_shapes.proofs.Ranges.{one_more}
use Rattle.sa_trace_events.specs.Whole.{line_ends}
use Rattle.sa_trace_events.proofs.whole.push_line_arrows.Goals as goal

pub loop-p-preserved : goal.loop-p-preserved
loop-p-preserved c = one_more (line_ends c.args.items.now) c.loop-p.p _ _ _ c.loop-p.invariant c.in_ok-push_ends.ensures
