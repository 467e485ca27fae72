use Rattle.sa_keys.proofs.Outcomes.{outcomes-tell}
use Rattle.sa_keys.proofs.laws.keys_tell_outcomes.Goals as goal

pub returns : goal.returns
returns c = outcomes-tell
