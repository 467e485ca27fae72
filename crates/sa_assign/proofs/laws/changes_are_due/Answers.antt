use Rattle.sa_assign.proofs.AimLemmas.{all-filled}
use Rattle.sa_assign.proofs.laws.changes_are_due.Goals as goal

pub returns : goal.returns
returns c = λ spaces shares marks aims fits. (all-filled 0 spaces shares marks aims fits).due
