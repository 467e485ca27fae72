use Rattle.sa_kernel_laws.proofs.turns.Fetches.{fetches-keep}
use Rattle.sa_kernel_laws.proofs.laws.fetches_keep.Goals as goal

pub returns : goal.returns
returns g c = fetches-keep g.row.C.Denot
