use Rattle.sa_promises.proofs.lives.Moments.{lists-are-locked-once, lockers-stand-somewhere}
use Rattle.sa_ranks.specs.Packages.{rules_of}
use Rattle.sa_promises.proofs.packages.Both.{apart_of, tells_of}
use Rattle.sa_promises.proofs.consequences.legal_runs_lock_lists_once.Goals as goal

pub returns-clause-once : goal.returns-clause-once
returns-clause-once c = λ which. lists-are-locked-once (rules_of which) (apart_of which)

pub returns-clause-stand : goal.returns-clause-stand
returns-clause-stand c = λ which. lockers-stand-somewhere (rules_of which) (tells_of which)
