use Rattle.std.proofs.Common.{◌≡◌, ◌++◌, take}
use Rattle.std.specs.List.{flat_map}
use Rattle.sa_cells.specs.Cells.{act_cells}
use Rattle.sa_cells.proofs.cells.push_acts.Given as goal

abbrev pub invariant-loop-a : goal.invariant-loop-a
invariant-loop-a l = l.cells.items ≡ l.initial.cells.items ++ flat_map act_cells (take l.a-index l.acts)
