use Rattle.sa_package_runs.proofs.Commits.{local-instructions-are-steps, commits-are-turns, turns-are-commits}
use Rattle.sa_package_runs.proofs.laws.a_commit_is_as_many_turns.Goals as goal

pub returns : goal.returns
returns c = record { steps = local-instructions-are-steps; turns = commits-are-turns; only = turns-are-commits }
