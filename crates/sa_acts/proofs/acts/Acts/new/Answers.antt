use Rattle.std.proofs.Common.{rules}
use Rattle.sa_acts.proofs.RoomLemmas.{room-none, view-none}
use Rattle.sa_acts.proofs.acts.Acts.new.Goals as goal

pub invariant_of-result : goal.invariant_of-result
invariant_of-result g c = room-none c.new.result c.no_queues.result c.new.ensures.empty (search rules) c.no_queues.ensures

pub returns : goal.returns
returns g c = view-none c.new.result c.no_queues.result c.new.ensures.empty (search rules) c.no_queues.ensures
