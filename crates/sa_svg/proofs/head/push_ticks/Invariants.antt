use Rattle.std.proofs.Common.{◌≡◌, ◌++◌}
use Rattle.sa_svg.specs.Head.{tick}
use Rattle.std.specs.List.{flat_map, range_with_len}
use Rattle.sa_svg.proofs.head.push_ticks.Given as goal

abbrev pub invariant-loop-at : goal.invariant-loop-at
invariant-loop-at l = l.out.items ≡ l.initial.out.items ++ flat_map (tick l.layout l.window) (range_with_len 0 l.at)
