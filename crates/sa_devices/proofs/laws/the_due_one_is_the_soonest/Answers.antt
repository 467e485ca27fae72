use Rattle.sa_devices.proofs.LawLemmas.{due_of-soonest}
use Rattle.sa_devices.proofs.laws.the_due_one_is_the_soonest.Goals as goal

pub returns : goal.returns
returns c = due_of-soonest
