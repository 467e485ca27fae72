use Rattle.std.proofs.Common.{inr, arith}
use Rattle.sa_assign.proofs.AimLemmas.{AreInOrder-changes_from, all-filled}
use Rattle.sa_assign.proofs.laws.aims_are_added_as_they_are_missing.Goals as goal

pub returns-clause-order : goal.returns-clause-order
returns-clause-order c = AreInOrder-changes_from 0

pub returns-clause-counts : goal.returns-clause-counts
returns-clause-counts c = λ spaces s shares marks aims fits below. (all-filled 0 spaces shares marks aims fits).count s (omega arith) (omega arith)

pub returns-clause-others : goal.returns-clause-others
returns-clause-others c = λ spaces s shares marks aims fits past. (all-filled 0 spaces shares marks aims fits).none s (inr (omega arith))
