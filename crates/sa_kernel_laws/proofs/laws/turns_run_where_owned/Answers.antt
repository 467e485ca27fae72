use Rattle.sa_kernel_laws.proofs.rules.Upcalls.{where-owned}
use Rattle.sa_kernel_laws.proofs.laws.turns_run_where_owned.Goals as goal

pub returns : goal.returns
returns g c = where-owned g.row.C.Denot
