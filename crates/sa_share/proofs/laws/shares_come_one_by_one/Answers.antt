use Rattle.sa_share.proofs.RoundLemmas.{shares_of-share, length-shares_of}
use Rattle.sa_share.proofs.laws.shares_come_one_by_one.Goals as goal

pub returns-clause-shares : goal.returns-clause-shares
returns-clause-shares c = shares_of-share

pub returns-clause-places : goal.returns-clause-places
returns-clause-places c = length-shares_of
