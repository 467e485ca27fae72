use Rattle.sa_workload.proofs.forward.Standing.{of_any, of_first, is_first}
use Rattle.sa_workload.proofs.laws.versions_are_counted.Goals as goal

pub returns-clause-any : goal.returns-clause-any
returns-clause-any c = λ w. ((λ of. of.workload), of_any w)

pub returns-clause-version1 : goal.returns-clause-version1
returns-clause-version1 c = λ w. ((λ of. (of.workload, is_first w of.version)), λ h. of_first w h.0 h.1)
