use Rattle.sa_promises.proofs.words.Timely.{tells-in-time}
use Rattle.sa_ranks.specs.Packages.{rules_named}
use Rattle.sa_promises.proofs.headline.legal_runs_tell_in_time.Goals as goal

pub returns : goal.returns
returns c = λ which. tells-in-time (rules_named which)
