use Rattle.std.proofs.Common.{◌≡◌, ◌++◌}
use Rattle.std.specs.List.{flat_map, range_with_len}
use Rattle.sa_trace_events.specs.Whole.{thread_text}
use Rattle.sa_trace_events.proofs.whole.push_threads.Given as goal

abbrev pub invariant-loop-t : goal.invariant-loop-t
invariant-loop-t l = l.out.items ≡ l.initial.out.items ++ flat_map (thread_text l.span l.items l.s.0) (range_with_len 0 l.t)
