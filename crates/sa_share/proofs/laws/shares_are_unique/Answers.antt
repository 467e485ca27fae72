use Rattle.sa_share.proofs.ShareLemmas.{share_at-unique, shares_unique}
use Rattle.sa_share.proofs.laws.shares_are_unique.Goals as goal

pub returns-clause-each : goal.returns-clause-each
returns-clause-each c = share_at-unique

pub returns-clause-whole : goal.returns-clause-whole
returns-clause-whole c = shares_unique
