use Rattle.std.proofs.Common.{◌≡◌, ◌++◌}
use Rattle.std.specs.List.{flat_map, range_with_len}
use Rattle.sa_trace_events.specs.Whole.{lock_text}
use Rattle.sa_trace_events.proofs.whole.push_locks.Given as goal

abbrev pub invariant-loop-l : goal.invariant-loop-l
invariant-loop-l l = l.out.items ≡ l.initial.out.items ++ flat_map (lock_text l.span l.items l.s.0) (range_with_len 0 l.l)
