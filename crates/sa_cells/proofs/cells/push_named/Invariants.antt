use Rattle.std.proofs.Common.{◌≡◌, ◌++◌, take}
use Rattle.std.specs.List.{flat_map}
use Rattle.sa_cells.specs.Cells.{acts_in}
use Rattle.sa_cells.proofs.cells.push_named.Given as goal

abbrev pub invariant-loop-what : goal.invariant-loop-what
invariant-loop-what l = l.acts.items ≡ l.initial.acts.items ++ flat_map acts_in (take l.what-index l.records)
