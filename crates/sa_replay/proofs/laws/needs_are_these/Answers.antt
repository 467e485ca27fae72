use Rattle.sa_replay.proofs.NeedLemmas.{needs}
use Rattle.sa_replay.proofs.laws.needs_are_these.Goals as goal

pub returns : goal.returns
returns c w p r beyond x sees = needs w p r beyond x sees
