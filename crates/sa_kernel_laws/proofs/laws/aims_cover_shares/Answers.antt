use Rattle.sa_kernel_laws.proofs.rules.Shares.{cover-shares}
use Rattle.sa_kernel_laws.proofs.laws.aims_cover_shares.Goals as goal

pub returns : goal.returns
returns g c = cover-shares g.row.C.Denot
