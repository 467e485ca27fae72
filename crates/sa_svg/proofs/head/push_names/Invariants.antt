use Rattle.std.proofs.Common.{◌≡◌, ◌++◌}
use Rattle.std.specs.List.{flat_map, range_with_len}
use Rattle.sa_svg.specs.Head.{band_names}
use Rattle.sa_svg.proofs.head.push_names.Given as goal

abbrev pub invariant-loop-band : goal.invariant-loop-band
invariant-loop-band l = l.out.items ≡ l.initial.out.items ++ flat_map (band_names l.layout) (range_with_len 0 l.band)
