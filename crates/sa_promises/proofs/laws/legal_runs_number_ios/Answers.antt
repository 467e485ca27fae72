use Rattle.sa_promises.proofs.words.Ios.{blocks-name-their-io}
use Rattle.sa_ranks.specs.Packages.{rules_named}
use Rattle.sa_promises.proofs.laws.legal_runs_number_ios.Goals as goal

pub returns : goal.returns
returns c = λ which. blocks-name-their-io (rules_named which)
