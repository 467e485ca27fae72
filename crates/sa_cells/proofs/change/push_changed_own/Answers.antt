use Rattle.std.proofs.Common.{sym, ◌∙◌}
use Rattle.std.specs.List.{flat_map}
use Rattle.sa_check_moment.specs.Seen.{seen, event}
use Rattle.sa_cells.specs.Cells.{own_cells}
use Rattle.sa_cells.specs.Change.{change_line}
use Rattle.sa_cells.proofs.Owning.{own-stay, negated}
use Rattle.sa_cells.proofs.Skipped.{none-written}
use Rattle.sa_cells.proofs.change.push_changed_own.Goals as goal

pub returns-then-are_quiet : goal.returns-then-are_quiet
returns-then-are_quiet c =
    let m = seen c.args.before.now.moment in
    let n = seen c.args.view.now.moment in
    none-written c.args.out.now.items (flat_map (change_line c.args.event c.args.ups.now m n) (own_cells n c.args.s))
    (own-stay c.args.event c.args.ups.now m n (event c.args.event c.args.p c.args.records.now) c.requires
    (negated _ (sym c.are_quiet.ensures ∙ c.if-are_quiet.true)) c.args.s)
