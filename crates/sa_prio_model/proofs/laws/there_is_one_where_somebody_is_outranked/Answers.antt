use Rattle.sa_prio_model.proofs.Pairs.{lowest-none}
use Rattle.sa_prio_model.proofs.laws.there_is_one_where_somebody_is_outranked.Goals as goal

pub returns : goal.returns
returns c = λ v seen q e less. lowest-none v seen q e less
