use Rattle.sa_histories.proofs.Appended.{along-both, lawful-append}
use Rattle.sa_ranks.specs.Packages.{rules_named}
use Rattle.sa_promises.proofs.laws.laws_hold_along_histories.Goals as goal

pub returns-clause-along : goal.returns-clause-along
returns-clause-along c = λ which. along-both (rules_named which)

pub returns-clause-append : goal.returns-clause-append
returns-clause-append c = λ which. lawful-append (rules_named which)
