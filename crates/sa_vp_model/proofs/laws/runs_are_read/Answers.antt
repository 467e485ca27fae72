use Rattle.sa_vp_model.proofs.Runs.{runs_are_read}
use Rattle.sa_vp_model.proofs.laws.runs_are_read.Goals as goal

pub returns : goal.returns
returns c = runs_are_read
