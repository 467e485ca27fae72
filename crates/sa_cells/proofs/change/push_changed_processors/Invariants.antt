use Rattle.std.proofs.Common.{◌≡◌, ◌++◌}
use Rattle.std.specs.List.{flat_map}
use Rattle.sa_check_moment.specs.Seen.{seen}
use Rattle.sa_cells.specs.Cells.{processor_cells, up_to}
use Rattle.sa_cells.specs.Change.{change_line}
use Rattle.sa_cells.proofs.change.push_changed_processors.Given as goal

abbrev pub invariant-loop-n : goal.invariant-loop-n
invariant-loop-n l = l.out.items ≡ l.initial.out.items ++ flat_map (change_line l.event l.ups (seen l.before.moment) (seen l.view.moment)) (up_to processor_cells l.n)
