use Rattle.std.proofs.Common.{◌≡◌, ◌++◌}
use Rattle.sa_check_moment.specs.Seen.{seen}
use Rattle.sa_cells.specs.Cells.{space_cells, up_to}
use Rattle.sa_cells.proofs.cells.push_spaces.Given as goal

abbrev pub invariant-loop-n : goal.invariant-loop-n
invariant-loop-n l = l.cells.items ≡ l.initial.cells.items ++ up_to (space_cells (seen l.moment)) l.n
