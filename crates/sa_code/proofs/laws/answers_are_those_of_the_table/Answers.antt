use Rattle.sa_code.proofs.Answers.{micro-answer}
use Rattle.sa_code.proofs.laws.answers_are_those_of_the_table.Goals as goal

pub returns : goal.returns
returns c = micro-answer
