use Rattle.sa_check_lives.proofs.ReadLemmas.{records-read, steps-read, ups-read}
use Rattle.sa_check_lives.proofs.laws.lives_are_read.Goals as goal

pub returns-clause-records : goal.returns-clause-records
returns-clause-records c = records-read

pub returns-clause-steps : goal.returns-clause-steps
returns-clause-steps c = steps-read

pub returns-clause-ups : goal.returns-clause-ups
returns-clause-ups c = ups-read
