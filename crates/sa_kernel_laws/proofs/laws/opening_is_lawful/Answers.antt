use Rattle.sa_kernel_laws.proofs.histories.Runs.{all-at-opening}
use Rattle.sa_kernel_laws.proofs.laws.opening_is_lawful.Goals as goal

pub returns : goal.returns
returns c = all-at-opening
