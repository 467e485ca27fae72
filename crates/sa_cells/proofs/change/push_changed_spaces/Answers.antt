use Rattle.sa_check_moment.specs.Seen.{seen}
use Rattle.sa_cells.specs.Cells.{space_cells}
use Rattle.sa_cells.specs.Change.{change_line}
use Rattle.sa_cells.proofs.Skipped.{cells-more}
use Rattle.sa_cells.proofs.change.push_changed_spaces.Goals as goal

pub loop-n-preserved : goal.loop-n-preserved
loop-n-preserved c =
    cells-more (change_line c.args.event c.args.ups.now (seen c.args.before.now.moment) (seen c.args.view.now.moment)) (space_cells (seen c.args.view.now.moment)) c.loop-n.n _ _ _
    c.loop-n.invariant c.in_ok-push_changed_space.ensures
