use Rattle.sa_kernel_laws.proofs.rules.Causes.{want-cause}
use Rattle.sa_kernel_laws.proofs.laws.wants_have_causes.Goals as goal

pub returns : goal.returns
returns g c = want-cause g.row.C.Denot
