use Rattle.sa_promises.proofs.lives.Moments.{shares-are-the-ones}
use Rattle.sa_promises.proofs.consequences.claims_have_one_sharing.Goals as goal

pub returns : goal.returns
returns c = shares-are-the-ones
