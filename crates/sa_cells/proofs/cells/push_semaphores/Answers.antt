use Rattle.sa_cells.specs.Cells.{semaphore_cell}
use Rattle.sa_shapes.proofs.Ranges.{one_more}
use Rattle.sa_cells.proofs.cells.push_semaphores.Goals as goal

pub loop-n-preserved : goal.loop-n-preserved
loop-n-preserved c = one_more (semaphore_cell c.args.s) c.loop-n.n _ _ _ c.loop-n.invariant c.in_ok-push.ensures.items
