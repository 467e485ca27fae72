use Rattle.sa_lists.proofs.Changes.{listed-once}
use Rattle.sa_lists.proofs.laws.a_thread_stands_in_one_list.Goals as goal

pub returns : goal.returns
returns c = listed-once
