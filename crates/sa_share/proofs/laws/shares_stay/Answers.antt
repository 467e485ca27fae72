use Rattle.sa_share.proofs.FairLemmas.{stays}
use Rattle.sa_share.proofs.laws.shares_stay.Goals as goal

pub returns : goal.returns
returns c = stays
