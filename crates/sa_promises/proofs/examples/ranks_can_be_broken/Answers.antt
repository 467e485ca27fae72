use Rattle.sa_promises.proofs.Urging.{breaks-own_line, breaks-back, breaks-locks, breaks-urge, breaks-rank}
use Rattle.sa_promises.proofs.examples.ranks_can_be_broken.Goals as goal

pub returns-clause-own_line : goal.returns-clause-own_line
returns-clause-own_line c = breaks-own_line

pub returns-clause-back : goal.returns-clause-back
returns-clause-back c = breaks-back

pub returns-clause-locks : goal.returns-clause-locks
returns-clause-locks c = breaks-locks

pub returns-clause-urge : goal.returns-clause-urge
returns-clause-urge c = breaks-urge

pub returns-clause-rank : goal.returns-clause-rank
returns-clause-rank c = breaks-rank
