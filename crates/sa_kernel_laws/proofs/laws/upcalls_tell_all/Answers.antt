use Rattle.sa_kernel_laws.proofs.rules.Upcalls.{all-told}
use Rattle.sa_kernel_laws.proofs.laws.upcalls_tell_all.Goals as goal

pub returns : goal.returns
returns g c = all-told g.row.C.Denot
