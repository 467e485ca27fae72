use Rattle.toga_kinds.proofs.Sums.{kinds_add_up_on, kinds_add_up}
use Rattle.toga_kinds.proofs.laws.kinds_add_up.Goals as goal

pub returns : goal.returns
returns c = record { one = kinds_add_up_on; all = kinds_add_up }
