use Rattle.sa_laws.specs.Event.{events_of}
use Rattle.sa_laws.specs.Legal.{before}
use Rattle.sa_ranks.specs.Packages.{rules_of}
use Rattle.sa_promises.proofs.packages.Both.{announces_of}
use Rattle.sa_promises.proofs.consequences.legal_runs_announce_demand.Goals as goal

pub returns : goal.returns
returns c = λ which w items legal n e at.
    let needs = announces_of which in
    needs.announced w (before (rules_of which) w (events_of items) n) e (legal.each n e at)
