use Rattle.std.proofs.Common.{◌≡◌, ◌++◌, take}
use Rattle.std.specs.List.{flat_map}
use Rattle.sa_check_moment.specs.Seen.{seen}
use Rattle.sa_cells.specs.Cells.{act_cells}
use Rattle.sa_cells.specs.Change.{change_line}
use Rattle.sa_cells.proofs.change.push_changed_acts.Given as goal

abbrev pub invariant-loop-a : goal.invariant-loop-a
invariant-loop-a l = l.out.items ≡ l.initial.out.items ++ flat_map (change_line l.event l.ups (seen l.before.moment) (seen l.view.moment)) (flat_map act_cells (take l.a-index l.acts))
