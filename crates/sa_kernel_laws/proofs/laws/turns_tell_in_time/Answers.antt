use Rattle.sa_kernel_laws.proofs.rules.Upcalls.{in-time}
use Rattle.sa_kernel_laws.proofs.laws.turns_tell_in_time.Goals as goal

pub returns : goal.returns
returns g c = in-time g.row.C.Denot
