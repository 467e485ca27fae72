use Rattle.sa_code.proofs.Steps.{micro-changes_only}
use Rattle.sa_code.proofs.laws.other_lists_stay.Goals as goal

pub returns : goal.returns
returns c = micro-changes_only
