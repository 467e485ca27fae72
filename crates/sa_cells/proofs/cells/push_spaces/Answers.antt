use Rattle.sa_check_moment.specs.Seen.{seen}
use Rattle.sa_cells.specs.Cells.{space_cells}
use Rattle.sa_shapes.proofs.Ranges.{one_more}
use Rattle.sa_cells.proofs.cells.push_spaces.Goals as goal

pub loop-n-preserved : goal.loop-n-preserved
loop-n-preserved c = one_more (space_cells (seen c.args.moment.now)) c.loop-n.n _ _ _ c.loop-n.invariant c.in_ok-push_space.ensures
