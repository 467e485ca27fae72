use Rattle.sa_share.proofs.FairLemmas.{spent}
use Rattle.sa_share.proofs.laws.shares_are_fair.Goals as goal

pub returns-clause-spent : goal.returns-clause-spent
returns-clause-spent c = spent
