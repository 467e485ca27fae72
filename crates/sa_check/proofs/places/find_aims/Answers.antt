use Rattle.sa_check_moment.specs.Seen.{seen}
use Rattle.sa_check.specs.Items.{told_event}
use Rattle.sa_check.proofs.PlaceLemmas.{aims-when-covered}
use Rattle.sa_check.proofs.places.find_aims.Goals as goal

pub returns-then-covers_shares-clause-due : goal.returns-then-covers_shares-clause-due
returns-then-covers_shares-clause-due c =
    aims-when-covered (seen c.args.moment.now) (told_event c.args.event.now) c.has_aims.result c.has_aims.ensures
    (c.covers_shares.ensures.0 c.if-covers_shares.true)
