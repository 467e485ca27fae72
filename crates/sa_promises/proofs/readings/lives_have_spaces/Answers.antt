use Rattle.sa_promises.proofs.read.Moments.{legal-life-spaces}
use Rattle.sa_ranks.specs.Packages.{rules_of}
use Rattle.sa_promises.proofs.packages.Both.{forms_of}
use Rattle.sa_promises.proofs.readings.lives_have_spaces.Goals as goal

pub returns : goal.returns
returns c = λ which. legal-life-spaces (rules_of which) (forms_of which)
