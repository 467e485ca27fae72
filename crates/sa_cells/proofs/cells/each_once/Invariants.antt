use Rattle.std.proofs.Common.{◌≡◌, [], drop}
use Rattle.sa_cells.specs.Cells.{each_once}
use Rattle.sa_cells.proofs.cells.each_once.Given as goal

abbrev pub invariant-loop-a : goal.invariant-loop-a
invariant-loop-a l = each_once [] l.acts ≡ each_once l.once.items (drop l.a-index l.acts)
