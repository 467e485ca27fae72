use Rattle.sa_workload.proofs.whole.Whole.{answers, answers1}
use Rattle.sa_workload.proofs.laws.texts_are_bad_once.Goals as goal

pub returns-clause-text : goal.returns-clause-text
returns-clause-text c = λ bytes. (answers bytes).not_bad

pub returns-clause-once : goal.returns-clause-once
returns-clause-once c = λ bytes. (answers bytes).once

pub returns-clause-text1 : goal.returns-clause-text1
returns-clause-text1 c = λ bytes. (answers1 bytes).not_bad

pub returns-clause-once1 : goal.returns-clause-once1
returns-clause-once1 c = λ bytes. (answers1 bytes).once
