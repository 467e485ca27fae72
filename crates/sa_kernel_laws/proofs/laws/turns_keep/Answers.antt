use Rattle.sa_kernel_laws.proofs.rules.Upcalls.{turns-keep}
use Rattle.sa_kernel_laws.proofs.laws.turns_keep.Goals as goal

pub returns : goal.returns
returns g c = turns-keep g.row.C.Denot
