use Rattle.sa_vp_model.proofs.Turns.{turns_are_read}
use Rattle.sa_vp_model.proofs.laws.turns_are_read.Goals as goal

pub returns : goal.returns
returns c = turns_are_read
