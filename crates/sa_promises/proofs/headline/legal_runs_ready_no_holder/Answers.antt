use Rattle.sa_promises.proofs.lives.Holders.{no-holder-is-ready}
use Rattle.sa_ranks.specs.Packages.{rules_of}
use Rattle.sa_promises.proofs.packages.Both.{knows_of}
use Rattle.sa_promises.proofs.headline.legal_runs_ready_no_holder.Goals as goal

pub returns : goal.returns
returns c = λ which. no-holder-is-ready (rules_of which) (knows_of which)
