use Rattle.sa_ranks.specs.Packages.{rules_of}
use Rattle.sa_promises.proofs.packages.Both.{forms_of}
use Rattle.sa_promises.proofs.read.Moments.{legal-steps}
use Rattle.sa_promises.proofs.read.Urged.{asks-more}
use Rattle.sa_promises.proofs.readings.steps_are_read.Goals as goal

pub returns : goal.returns
returns c = λ which. legal-steps (rules_of which) which (forms_of which) (asks-more which)
