use Rattle.sa_kernel_laws.proofs.Value.{owners-run}
use Rattle.sa_kernel_laws.proofs.facts.owners_run.Goals as goal

pub returns : goal.returns
returns g c = owners-run g.row.C.Denot
