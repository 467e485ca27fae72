use Rattle.sa_kernel_laws.proofs.histories.Example.{short-run}
use Rattle.sa_kernel_laws.proofs.runs.a_short_run_can_be_made.Goals as goal

pub returns : goal.returns
returns c = short-run
