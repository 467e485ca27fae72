use Rattle.sa_shapes.proofs.Ranges.{one_more}
use Rattle.sa_trace_events.specs.Whole.{thread_text}
use Rattle.sa_trace_events.proofs.whole.push_threads.Goals as goal

pub loop-t-preserved : goal.loop-t-preserved
loop-t-preserved c = one_more (thread_text c.args.span c.args.items.now c.args.s.0) c.loop-t.t _ _ _ c.loop-t.invariant c.in_ok-push_titled_track.ensures
