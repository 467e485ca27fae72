use Rattle.sa_fast.proofs.WorkLemmas.{named-new}
use Rattle.sa_fast.proofs.work.WorkLists.new.Goals as goal

pub invariant_of-result : goal.invariant_of-result
invariant_of-result c = named-new c.in_ok-chains.chains _ _ c.from.ensures c.from-2.ensures c.in_ok-chains.ensures
