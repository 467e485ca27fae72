use Rattle.sa_promises.proofs.closing.Due.{later-lines}
use Rattle.sa_ranks.specs.Packages.{rules_of}
use Rattle.sa_promises.proofs.packages.Both.{forms_of}
use Rattle.sa_promises.proofs.consequences.closings_add_no_line.Goals as goal

pub returns : goal.returns
returns c = λ which. later-lines (rules_of which) (forms_of which)
