use Rattle.sa_shapes.proofs.Marked.{all-marked, all-counted}
use Rattle.sa_shapes.proofs.laws.records_have_marks.Goals as goal

pub returns-clause-there : goal.returns-clause-there
returns-clause-there c = all-marked

pub returns-clause-counted : goal.returns-clause-counted
returns-clause-counted c = all-counted
