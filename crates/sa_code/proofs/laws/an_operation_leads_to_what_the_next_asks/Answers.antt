use Rattle.sa_code.proofs.Asked.{can_change-taken, can_change-pushed, can_change-popped}
use Rattle.sa_code.proofs.laws.an_operation_leads_to_what_the_next_asks.Goals as goal

pub returns : goal.returns
returns c = record { taken = can_change-taken; pushed = can_change-pushed; popped = can_change-popped }
