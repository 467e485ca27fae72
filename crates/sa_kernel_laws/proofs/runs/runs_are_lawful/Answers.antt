use Rattle.sa_kernel_laws.proofs.histories.Runs.{runs-lawful, runs-events}
use Rattle.sa_kernel_laws.proofs.runs.runs_are_lawful.Goals as goal

pub returns-clause-lawful : goal.returns-clause-lawful
returns-clause-lawful g c = runs-lawful g.row.C.Denot

pub returns-clause-events : goal.returns-clause-events
returns-clause-events g c = runs-events g.row.C.Denot
