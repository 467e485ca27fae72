use Rattle.sa_promises.proofs.Smallest.{smallest-legal}
use Rattle.sa_promises.proofs.examples.smallest_run_is_legal.Goals as goal

pub returns : goal.returns
returns c = smallest-legal
