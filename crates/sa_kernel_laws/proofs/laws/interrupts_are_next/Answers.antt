use Rattle.sa_kernel_laws.proofs.rules.Upcalls.{interrupt-next}
use Rattle.sa_kernel_laws.proofs.laws.interrupts_are_next.Goals as goal

pub returns : goal.returns
returns g c = interrupt-next g.row.C.Denot
