use Rattle.sa_promises.proofs.closing.Front.{low-lines-aimed}
use Rattle.sa_ranks.specs.Packages.{rules_of}
use Rattle.sa_promises.proofs.packages.Both.{forms_of}
use Rattle.sa_promises.proofs.consequences.low_lines_are_aimed.Goals as goal

pub returns : goal.returns
returns c = λ which. low-lines-aimed (rules_of which) (forms_of which)
