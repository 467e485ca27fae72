use Rattle.std.proofs.Common.{sym}
use Rattle.sa_check_moment.specs.Seen.{seen}
use Rattle.sa_cells.proofs.Holders.{nobody_has}
use Rattle.sa_cells.proofs.space.other_holder.Goals as goal

pub returns-then-not-is_locked : goal.returns-then-not-is_locked
returns-then-not-is_locked c =
    sym (nobody_has (seen c.args.moment.now).readings c.args.s c.args.l c.args.acts.now
    (λ locked. let yes = c.is_locked.ensures.1 locked in let no = c.if-not-is_locked.true in cc))
