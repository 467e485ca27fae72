use Rattle.sa_promises.proofs.words.Fresh.{numbers-are-fresh}
use Rattle.sa_ranks.specs.Packages.{rules_named}
use Rattle.sa_promises.proofs.headline.legal_runs_use_fresh_numbers.Goals as goal

pub returns : goal.returns
returns c = λ which. numbers-are-fresh (rules_named which)
