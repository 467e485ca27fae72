use Rattle.sa_kernel_laws.proofs.rules.Causes.{kernels-lines, line-cause}
use Rattle.sa_kernel_laws.proofs.laws.lines_have_causes.Goals as goal

pub returns-clause-asked : goal.returns-clause-asked
returns-clause-asked g c = line-cause g.row.C.Denot

pub returns-clause-alone : goal.returns-clause-alone
returns-clause-alone g c = kernels-lines g.row.C.Denot
