use Rattle.std.proofs.Common.{◌≡◌, ◌++◌}
use Rattle.std.specs.List.{flat_map, range_with_len}
use Rattle.sa_svg.specs.Head.{lane_name}
use Rattle.sa_svg.proofs.head.push_lane_names.Given as goal

abbrev pub invariant-loop-p : goal.invariant-loop-p
invariant-loop-p l = l.out.items ≡ l.initial.out.items ++ flat_map (lane_name l.layout l.band) (range_with_len 0 l.p)
