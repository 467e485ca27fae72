use Rattle.sa_vp_model.proofs.Ends.{ends_are_read}
use Rattle.sa_vp_model.proofs.laws.ends_are_read.Goals as goal

pub returns : goal.returns
returns c = ends_are_read
