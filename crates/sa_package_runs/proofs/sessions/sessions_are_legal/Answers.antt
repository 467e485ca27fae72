use Rattle.sa_package_runs.proofs.Legal.{session-legal, so-far-legal}
use Rattle.sa_package_runs.proofs.sessions.sessions_are_legal.Goals as goal

pub returns-clause-whole : goal.returns-clause-whole
returns-clause-whole c = session-legal

pub returns-clause-so_far : goal.returns-clause-so_far
returns-clause-so_far c = so-far-legal
