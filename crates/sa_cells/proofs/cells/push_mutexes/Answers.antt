use Rattle.sa_cells.specs.Cells.{mutex_cell}
use Rattle.sa_shapes.proofs.Ranges.{one_more}
use Rattle.sa_cells.proofs.cells.push_mutexes.Goals as goal

pub loop-n-preserved : goal.loop-n-preserved
loop-n-preserved c = one_more (mutex_cell c.args.s) c.loop-n.n _ _ _ c.loop-n.invariant c.in_ok-push.ensures.items
