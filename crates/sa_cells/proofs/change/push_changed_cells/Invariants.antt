use Rattle.std.proofs.Common.{◌≡◌, ◌++◌, take}
use Rattle.std.specs.List.{flat_map}
use Rattle.sa_check_moment.specs.Seen.{seen}
use Rattle.sa_cells.specs.Change.{change_line}
use Rattle.sa_cells.proofs.change.push_changed_cells.Given as goal

abbrev pub invariant-loop-cell : goal.invariant-loop-cell
invariant-loop-cell l = l.out.items ≡ l.initial.out.items ++ flat_map (change_line l.event l.ups (seen l.before.moment) (seen l.view.moment)) (take l.cell-index l.cells)
