use Rattle.sa_workload.proofs.forward.Standing.{any, alone}
use Rattle.sa_workload.proofs.whole.TableLaws.{last_cause_is_no_end}
use Rattle.sa_workload.proofs.laws.last_causes_are_no_end.Goals as goal

pub returns-clause-any : goal.returns-clause-any
returns-clause-any c = last_cause_is_no_end 3 any

pub returns-clause-version1 : goal.returns-clause-version1
returns-clause-version1 c = last_cause_is_no_end 1 alone
