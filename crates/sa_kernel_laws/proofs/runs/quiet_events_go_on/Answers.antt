use Rattle.sa_kernel_laws.proofs.histories.Histories.{quiet-goes-on}
use Rattle.sa_kernel_laws.proofs.runs.quiet_events_go_on.Goals as goal

pub returns : goal.returns
returns g c = quiet-goes-on g.row.C.Denot
