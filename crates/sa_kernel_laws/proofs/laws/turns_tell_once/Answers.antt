use Rattle.sa_kernel_laws.proofs.rules.Upcalls.{told-once}
use Rattle.sa_kernel_laws.proofs.laws.turns_tell_once.Goals as goal

pub returns : goal.returns
returns g c = told-once g.row.C.Denot
