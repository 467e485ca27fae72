use Rattle.sa_kernel_laws.proofs.opening.Opened.{opening-is, opening-keeps}
use Rattle.sa_kernel_laws.proofs.laws.opening_begins.Goals as goal

pub returns-clause-is : goal.returns-clause-is
returns-clause-is g c = opening-is g.row.C.Denot

pub returns-clause-keeps : goal.returns-clause-keeps
returns-clause-keeps g c = opening-keeps g.row.C.Denot
