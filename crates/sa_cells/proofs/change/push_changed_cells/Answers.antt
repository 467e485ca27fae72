use Rattle.std.proofs.Common.{arith}
use Rattle.sa_check_moment.specs.Seen.{seen}
use Rattle.sa_svg.proofs.Appends.{list-more, list-all}
use Rattle.sa_cells.specs.Change.{change_line}
use Rattle.sa_cells.proofs.change.push_changed_cells.Goals as goal

pub loop-cell-preserved : goal.loop-cell-preserved
loop-cell-preserved c =
    list-more (change_line c.args.event c.args.ups.now (seen c.args.before.now.moment) (seen c.args.view.now.moment)) c.args.cells.now c.loop-cell.cell-index _ c.args.out.now.items
    c.loop-cell.out.items c.push_touched_cell.new.out.items c.loop-cell-test.true c.loop-cell.invariant c.in_ok-push_touched_cell.ensures

pub returns : goal.returns
returns c =
    list-all (change_line c.args.event c.args.ups.now (seen c.args.before.now.moment) (seen c.args.view.now.moment)) c.args.cells.now c.loop-cell.cell-index c.args.out.now.items c.loop-cell.out.items
    (omega (arith, c.loop-cell-test.false)) c.loop-cell.invariant
