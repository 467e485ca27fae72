use Rattle.sa_promises.proofs.read.Moments.{legal-ready}
use Rattle.sa_ranks.specs.Packages.{rules_of}
use Rattle.sa_promises.proofs.packages.Both.{forms_of}
use Rattle.sa_promises.proofs.readings.ready_threads_are_read.Goals as goal

pub returns : goal.returns
returns c = λ which. legal-ready (rules_of which) (forms_of which)
