use Rattle.sa_code.proofs.Asked.{can_change-kept, can_pop-kept}
use Rattle.sa_code.proofs.laws.what_is_asked_of_a_list_lasts.Goals as goal

pub returns : goal.returns
returns c = record { change = can_change-kept; pop = can_pop-kept }
