use Rattle.sa_workload.proofs.forward.Standing.{lines-injective}
use Rattle.sa_workload.proofs.whole.OneBad.{texts_differ}
use Rattle.sa_workload.proofs.laws.texts_differ.Goals as goal

pub returns-clause-lines : goal.returns-clause-lines
returns-clause-lines c = lines-injective

pub returns-clause-texts : goal.returns-clause-texts
returns-clause-texts c = texts_differ
