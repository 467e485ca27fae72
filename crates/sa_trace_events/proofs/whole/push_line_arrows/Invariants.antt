use Rattle.std.proofs.Common.{◌≡◌, ◌++◌}
use Rattle.std.specs.List.{flat_map, range_with_len}
use Rattle.sa_trace_events.specs.Whole.{line_ends}
use Rattle.sa_trace_events.proofs.whole.push_line_arrows.Given as goal

abbrev pub invariant-loop-p : goal.invariant-loop-p
invariant-loop-p l = l.out.items ≡ l.initial.out.items ++ flat_map (line_ends l.items) (range_with_len 0 l.p)
