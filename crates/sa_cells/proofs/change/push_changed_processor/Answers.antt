use Rattle.std.proofs.Common.{sym, ◌∙◌, [], ◌∷◌}
use Rattle.sa_check_moment.specs.Seen.{seen, event}
use Rattle.sa_cells.specs.declared.cell.Cell.TheVariants.{Line, Runs}
use Rattle.sa_cells.specs.Cells.{processor_cells}
use Rattle.sa_cells.specs.Change.{change_line}
use Rattle.sa_cells.proofs.Owning.{processor-stays, negated}
use Rattle.sa_cells.proofs.Skipped.{mapped-as}
use Rattle.sa_cells.proofs.change.push_changed_processor.Goals as goal

pub returns-then-are_quiet : goal.returns-then-are_quiet
returns-then-are_quiet c =
    let m = seen c.args.before.now.moment in
    let n = seen c.args.view.now.moment in
    mapped-as c.push_changed_cells.result (change_line c.args.event c.args.ups.now m n) (Line c.args.q ∷ Runs c.args.q ∷ []) (processor_cells c.args.q.0) c.args.out.now.items c.push_changed_cells.new.out.items
    (processor-stays c.args.event c.args.ups.now m n (event c.args.event c.args.p c.args.records.now) c.requires
    (negated _ (sym c.are_quiet.ensures ∙ c.if-are_quiet.true)) c.args.q)
    c.push_changed_cells.ensures
