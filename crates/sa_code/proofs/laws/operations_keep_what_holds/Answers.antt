use Rattle.sa_code.proofs.Kept.{begun-package, micro-package}
use Rattle.sa_code.proofs.laws.operations_keep_what_holds.Goals as goal

pub returns : goal.returns
returns c = record { begin = begun-package; step = micro-package }
