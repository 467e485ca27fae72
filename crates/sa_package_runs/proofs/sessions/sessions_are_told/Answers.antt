use Rattle.sa_package_runs.proofs.Told.{session-told, so-far-told, part-told}
use Rattle.sa_package_runs.proofs.sessions.sessions_are_told.Goals as goal

pub returns-clause-whole : goal.returns-clause-whole
returns-clause-whole c = λ w budget commands s replies ok done. session-told w budget ok commands s replies done

pub returns-clause-so_far : goal.returns-clause-so_far
returns-clause-so_far c = λ w budget commands s t replies command ok done comes. so-far-told w budget ok commands s t replies command done comes

pub returns-clause-partly : goal.returns-clause-partly
returns-clause-partly c = λ w budget commands s ok came. part-told w budget ok commands s came
