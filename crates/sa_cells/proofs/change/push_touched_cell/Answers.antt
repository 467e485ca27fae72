use Rattle.sa_cells.specs.Name.{name_of}
use Rattle.sa_cells.proofs.Stayed.{unwritten}
use Rattle.sa_cells.proofs.change.push_touched_cell.Goals as goal

pub returns-then-is_kept : goal.returns-then-is_kept
returns-then-is_kept c =
    unwritten c.args.event (name_of c.args.cell) _ _ c.args.out.now.items (c.is_kept.ensures c.args.ups.now c.if-is_kept.true)
