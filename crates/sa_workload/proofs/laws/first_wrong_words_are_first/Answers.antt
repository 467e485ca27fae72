use Rattle.sa_workload.proofs.forward.Standing.{any, alone}
use Rattle.sa_workload.proofs.whole.TableLaws.{first_wrong_words}
use Rattle.sa_workload.proofs.laws.first_wrong_words_are_first.Goals as goal

pub returns-clause-any : goal.returns-clause-any
returns-clause-any c = first_wrong_words 3 any

pub returns-clause-version1 : goal.returns-clause-version1
returns-clause-version1 c = first_wrong_words 1 alone
