use Rattle.std.proofs.Common.{◌≡◌, ◌++◌, take}
use Rattle.std.specs.List.{flat_map}
use Rattle.sa_cells.specs.Space.{listed_in}
use Rattle.sa_cells.proofs.space.push_list.Given as goal

abbrev pub invariant-loop-x : goal.invariant-loop-x
invariant-loop-x l = l.out.items ≡ l.initial.out.items ++ flat_map (listed_in l.l) (take l.x-index l.listed)
