use Rattle.std.proofs.Common.{arith}
use Rattle.sa_assign.proofs.AimLemmas.{all-filled, aimed-kept}
use Rattle.sa_assign.proofs.laws.shares_are_met.Goals as goal

pub returns-clause-met : goal.returns-clause-met
returns-clause-met c = λ spaces s shares marks aims fits below. (all-filled 0 spaces shares marks aims fits).met s (omega arith) (omega arith)

pub returns-clause-kept : goal.returns-clause-kept
returns-clause-kept c = aimed-kept
