use Rattle.std.proofs.Common.{◌≡◌, ◌++◌, take, codes, decimal}
use Rattle.std.specs.List.{flat_map}
use Rattle.toga_source.specs.Show.{evict_line}
use Rattle.toga_source.proofs.space.push_evictions.Given as goal

abbrev pub invariant-loop-evict : goal.invariant-loop-evict
invariant-loop-evict l = l.out.items ≡ l.initial.out.items ++ flat_map (evict_line l.number) (take l.evict-index l.evictions)
