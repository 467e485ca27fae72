use Rattle.std.proofs.Common.{◌≡◌, ◌++◌}
use Rattle.std.specs.List.{flat_map, range_with_len}
use Rattle.sa_trace_events.specs.Whole.{lane_text}
use Rattle.sa_trace_events.proofs.whole.push_lanes.Given as goal

abbrev pub invariant-loop-p : goal.invariant-loop-p
invariant-loop-p l = l.out.items ≡ l.initial.out.items ++ flat_map (lane_text l.span l.items) (range_with_len 0 l.p)
