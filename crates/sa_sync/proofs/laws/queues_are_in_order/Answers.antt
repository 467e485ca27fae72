use Rattle.sa_sync.proofs.LawLemmas.{locked_in_order, unlocked_in_order, waited_in_order, signalled_in_order, joined_in_order}
use Rattle.sa_sync.proofs.laws.queues_are_in_order.Goals as goal

pub returns : goal.returns
returns c = (locked_in_order, unlocked_in_order, waited_in_order, signalled_in_order, joined_in_order)
