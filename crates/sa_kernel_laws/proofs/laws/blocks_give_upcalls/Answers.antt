use Rattle.sa_kernel_laws.proofs.rules.Upcalls.{block-upcalls}
use Rattle.sa_kernel_laws.proofs.laws.blocks_give_upcalls.Goals as goal

pub returns : goal.returns
returns g c = block-upcalls g.row.C.Denot
