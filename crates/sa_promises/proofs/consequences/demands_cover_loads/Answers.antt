use Rattle.sa_promises.proofs.covers.Moments.{demands-cover-loads}
use Rattle.sa_ranks.specs.Packages.{rules_of}
use Rattle.sa_promises.proofs.packages.Both.{announces_of}
use Rattle.sa_promises.proofs.consequences.demands_cover_loads.Goals as goal

pub returns : goal.returns
returns c = λ which. demands-cover-loads (rules_of which) (announces_of which)
