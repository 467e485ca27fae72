use Rattle.std.proofs.Common.{◌≡◌, ◌++◌}
use Rattle.std.specs.List.{flat_map, range_with_len}
use Rattle.sa_check_moment.specs.Seen.{seen}
use Rattle.sa_cells.specs.Space.{io_act}
use Rattle.sa_cells.proofs.space.push_ios.Given as goal

abbrev pub invariant-loop-k : goal.invariant-loop-k
invariant-loop-k l = l.acts.items ≡ l.initial.acts.items ++ flat_map (io_act (seen l.moment).readings) (range_with_len 0 l.k)
