use Rattle.sa_kernel_laws.proofs.turns.Frames.{adds-its-event}
use Rattle.sa_kernel_laws.proofs.laws.turns_add_their_events.Goals as goal

pub returns : goal.returns
returns g c = adds-its-event g.row.C.Denot
