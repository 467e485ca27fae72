use Rattle.sa_sched.proofs.InOrder.{turns_in_order}
use Rattle.sa_sched.proofs.laws.turns_are_in_order.Goals as goal

pub returns : goal.returns
returns c = turns_in_order
