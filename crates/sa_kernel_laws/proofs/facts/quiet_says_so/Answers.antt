use Rattle.sa_kernel_laws.proofs.Value.{quiet-says}
use Rattle.sa_kernel_laws.proofs.facts.quiet_says_so.Goals as goal

pub returns : goal.returns
returns g c = quiet-says g.row.C.Denot
