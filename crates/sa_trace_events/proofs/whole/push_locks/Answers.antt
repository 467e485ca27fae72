use Rattle.sa_shapes.proofs.Ranges.{one_more}
use Rattle.sa_trace_events.specs.Whole.{lock_text}
use Rattle.sa_trace_events.proofs.whole.push_locks.Goals as goal

pub loop-l-preserved : goal.loop-l-preserved
loop-l-preserved c = one_more (lock_text c.args.span c.args.items.now c.args.s.0) c.loop-l.l _ _ _ c.loop-l.invariant c.in_ok-push_titled_track.ensures
