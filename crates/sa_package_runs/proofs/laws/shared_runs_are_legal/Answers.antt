use Rattle.sa_package_runs.proofs.Shared.{lock-legal, closed-legal, shared-legal}
use Rattle.sa_package_runs.proofs.laws.shared_runs_are_legal.Goals as goal

pub returns : goal.returns
returns c = record { locked = lock-legal; closed = closed-legal; done = shared-legal }
