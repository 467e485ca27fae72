use Rattle.sa_prio_model.proofs.Pairs.{lowest-is}
use Rattle.sa_prio_model.proofs.laws.the_lowest_is_the_first_of_the_lowest_rank.Goals as goal

pub returns : goal.returns
returns c = λ v seen x e. lowest-is v seen x e
