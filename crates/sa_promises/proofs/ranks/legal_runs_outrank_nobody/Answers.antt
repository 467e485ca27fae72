use Rattle.sa_promises.proofs.ranked.Runs.{none-is-outranked}
use Rattle.sa_promises.proofs.ranks.legal_runs_outrank_nobody.Goals as goal

pub returns : goal.returns
returns c = none-is-outranked
