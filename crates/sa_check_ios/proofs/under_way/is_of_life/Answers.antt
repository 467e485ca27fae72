use Rattle.std.proofs.Common.{arith}
use Rattle.std.proofs.lemmas.Grind.{common_steps}
use Rattle.sa_check_ios.proofs.under_way.is_of_life.Goals as goal

pub returns-in-Upcall : goal.returns-in-Upcall
returns-in-Upcall c = grind (arith, common_steps)

pub returns-in-Plain : goal.returns-in-Plain
returns-in-Plain c = grind (arith, common_steps)
