use Rattle.sa_promises.proofs.words.Once.{tells-at-most-once}
use Rattle.sa_ranks.specs.Packages.{rules_named}
use Rattle.sa_promises.proofs.headline.legal_runs_tell_at_most_once.Goals as goal

pub returns : goal.returns
returns c = λ which. tells-at-most-once (rules_named which)
