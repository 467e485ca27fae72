use Rattle.sa_promises.proofs.read.Moments.{legal-own-events}
use Rattle.sa_ranks.specs.Packages.{rules_of}
use Rattle.sa_promises.proofs.packages.Both.{forms_of}
use Rattle.sa_promises.proofs.readings.own_events_are_read.Goals as goal

pub returns : goal.returns
returns c = λ which. legal-own-events (rules_of which) (forms_of which)
