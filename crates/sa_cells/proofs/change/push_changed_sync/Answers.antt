use Rattle.std.proofs.Common.{sym, ◌∙◌}
use Rattle.std.specs.List.{flat_map}
use Rattle.sa_check_moment.specs.Seen.{seen, event}
use Rattle.sa_cells.specs.Cells.{sync_cells}
use Rattle.sa_cells.specs.Change.{change_line}
use Rattle.sa_cells.proofs.Owning.{sync-stay, negated}
use Rattle.sa_cells.proofs.Skipped.{none-written}
use Rattle.sa_cells.proofs.change.push_changed_sync.Goals as goal

pub returns-then-has_no_instr : goal.returns-then-has_no_instr
returns-then-has_no_instr c =
    let m = seen c.args.before.now.moment in
    let n = seen c.args.view.now.moment in
    none-written c.args.out.now.items (flat_map (change_line c.args.event c.args.ups.now m n) (sync_cells n c.args.s))
    (sync-stay c.args.event c.args.ups.now m n (event c.args.event c.args.p c.args.records.now) c.args.s c.requires.follows
    (negated _ (sym c.has_no_instr.ensures ∙ c.if-has_no_instr.true)))
