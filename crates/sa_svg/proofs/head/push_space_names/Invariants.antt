use Rattle.std.proofs.Common.{◌≡◌, ◌++◌}
use Rattle.std.specs.List.{flat_map, range_with_len}
use Rattle.sa_svg.specs.Head.{space_name}
use Rattle.sa_svg.proofs.head.push_space_names.Given as goal

abbrev pub invariant-loop-s : goal.invariant-loop-s
invariant-loop-s l = l.out.items ≡ l.initial.out.items ++ flat_map (space_name l.layout l.band) (range_with_len 0 l.s)
