use Rattle.std.proofs.Common.{sym, ◌∙◌, ap}
use Rattle.sa_check_moment.specs.Seen.{Seen, seen, event}
use Rattle.sa_cells.proofs.Stayed.{untouched}
use Rattle.sa_cells.proofs.Same.{same-text}
use Rattle.sa_cells.proofs.stays.is_kept.Goals as goal

pub returns-then-stays : goal.returns-then-stays
returns-then-stays c = λ ups yes.
    untouched ups (seen c.args.before.now.moment) (seen c.args.now.now.moment) (event c.args.number c.args.p c.args.records.now) c.args.cell c.requires
    (sym c.stays.ensures ∙ c.if-stays.true)

pub returns-then-is_same : goal.returns-then-is_same
returns-then-is_same c = λ ups yes.
    same-text ups (seen c.args.before.now.moment) (seen c.args.now.now.moment) c.args.cell (ap (λ (x : Seen). x.workload) c.requires.is)
    (sym c.is_same.ensures ∙ c.if-is_same.true)
