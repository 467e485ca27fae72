use Rattle.sa_promises.proofs.read.Moments.{legal-holdings}
use Rattle.sa_ranks.specs.Packages.{rules_of}
use Rattle.sa_promises.proofs.packages.Both.{forms_of}
use Rattle.sa_promises.proofs.readings.holdings_are_read.Goals as goal

pub returns : goal.returns
returns c = λ which. legal-holdings (rules_of which) (forms_of which)
