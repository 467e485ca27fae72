use Rattle.sa_sync.specs.Calls.{finished}
use Rattle.sa_sync.proofs.LawLemmas.{joiners_in_order}
use Rattle.sa_sync.proofs.laws.joiners_are_in_order.Goals as goal

pub returns : goal.returns
returns c = λ s t n h. joiners_in_order (finished s t) t n h
