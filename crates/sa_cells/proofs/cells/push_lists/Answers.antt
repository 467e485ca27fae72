use Rattle.sa_cells.specs.Cells.{list_cells}
use Rattle.sa_shapes.proofs.Ranges.{one_more}
use Rattle.sa_cells.proofs.cells.push_lists.Goals as goal

pub loop-n-preserved : goal.loop-n-preserved
loop-n-preserved c = one_more (list_cells c.args.s) c.loop-n.n _ _ _ c.loop-n.invariant c.in_ok-extend_from_slice.ensures.items
