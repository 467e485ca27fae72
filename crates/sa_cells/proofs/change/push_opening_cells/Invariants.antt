use Rattle.std.proofs.Common.{◌≡◌, ◌++◌, take}
use Rattle.std.specs.List.{flat_map}
use Rattle.sa_check_moment.specs.Seen.{seen}
use Rattle.sa_cells.specs.Change.{opening_line}
use Rattle.sa_cells.proofs.change.push_opening_cells.Given as goal

abbrev pub invariant-loop-cell : goal.invariant-loop-cell
invariant-loop-cell l = l.out.items ≡ l.initial.out.items ++ flat_map (opening_line (seen l.view.moment)) (take l.cell-index l.cells)
