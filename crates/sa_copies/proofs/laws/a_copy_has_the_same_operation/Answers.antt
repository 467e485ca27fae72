use Rattle.sa_copies.proofs.Alike.{can_do-copied}
use Rattle.sa_copies.proofs.Places.{ops-copied, sections-copied, copies-copied}
use Rattle.sa_copies.proofs.laws.a_copy_has_the_same_operation.Goals as goal

pub returns-clause-same : goal.returns-clause-same
returns-clause-same c = ops-copied

pub returns-clause-section : goal.returns-clause-section
returns-clause-section c = sections-copied

pub returns-clause-again : goal.returns-clause-again
returns-clause-again c = copies-copied

pub returns-clause-asks : goal.returns-clause-asks
returns-clause-asks c = can_do-copied
