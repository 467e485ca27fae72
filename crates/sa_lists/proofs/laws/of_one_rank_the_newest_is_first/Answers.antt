use Rattle.sa_lists.proofs.Changes.{inserted_front}
use Rattle.sa_lists.proofs.laws.of_one_rank_the_newest_is_first.Goals as goal

pub returns : goal.returns
returns c = inserted_front
