use Rattle.sa_workload.proofs.whole.Whole.{answers, answers1, either}
use Rattle.sa_workload.proofs.laws.text_or_bad.Goals as goal

pub returns-clause-any : goal.returns-clause-any
returns-clause-any c = λ bytes. either (answers bytes)

pub returns-clause-version1 : goal.returns-clause-version1
returns-clause-version1 c = λ bytes. either (answers1 bytes)
