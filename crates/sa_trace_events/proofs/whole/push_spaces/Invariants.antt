use Rattle.std.proofs.Common.{◌≡◌, ◌++◌}
use Rattle.std.specs.List.{flat_map, range_with_len}
use Rattle.sa_trace_events.specs.Whole.{space_text}
use Rattle.sa_trace_events.proofs.whole.push_spaces.Given as goal

abbrev pub invariant-loop-s : goal.invariant-loop-s
invariant-loop-s l = l.out.items ≡ l.initial.out.items ++ flat_map (space_text l.span l.items l.shape) (range_with_len 0 l.s)
