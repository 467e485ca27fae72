use Rattle.sa_share.proofs.ExistLemmas.{sharing-exists}
use Rattle.sa_share.proofs.laws.shares_exist.Goals as goal

pub returns : goal.returns
returns c = sharing-exists
