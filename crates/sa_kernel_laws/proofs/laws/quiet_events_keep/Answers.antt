use Rattle.sa_kernel_laws.proofs.turns.Quiet.{quiet-keeps}
use Rattle.sa_kernel_laws.proofs.laws.quiet_events_keep.Goals as goal

pub returns : goal.returns
returns g c = quiet-keeps g.row.C.Denot
