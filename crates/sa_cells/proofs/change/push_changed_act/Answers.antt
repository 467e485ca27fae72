use Rattle.std.proofs.Common.{sym, ◌∙◌, [], ◌∷◌}
use Rattle.sa_check_moment.specs.Seen.{seen, event}
use Rattle.sa_cells.specs.declared.cell.Cell.TheVariants.{Hand}
use Rattle.sa_cells.specs.Cells.{act_cells}
use Rattle.sa_cells.specs.Change.{change_line}
use Rattle.sa_cells.proofs.Owning.{act-stays, negated}
use Rattle.sa_cells.proofs.Skipped.{mapped-as}
use Rattle.sa_cells.proofs.change.push_changed_act.Goals as goal

pub returns-then-are_quiet : goal.returns-then-are_quiet
returns-then-are_quiet c =
    let m = seen c.args.before.now.moment in
    let n = seen c.args.view.now.moment in
    mapped-as c.push_changed_cells.result (change_line c.args.event c.args.ups.now m n) (Hand c.args.a ∷ []) (act_cells c.args.a) c.args.out.now.items c.push_changed_cells.new.out.items
    (act-stays c.args.event c.args.ups.now m n (event c.args.event c.args.p c.args.records.now) c.requires
    (negated _ (sym c.are_quiet.ensures ∙ c.if-are_quiet.true)) c.args.a)
    c.push_changed_cells.ensures
