use Rattle.sa_histories.proofs.FirstBreaks.{breaks-once, right-or-broken}
use Rattle.sa_ranks.specs.Packages.{rules_named}
use Rattle.sa_promises.proofs.laws.traces_break_once.Goals as goal

pub returns-clause-once : goal.returns-clause-once
returns-clause-once c = λ which. breaks-once (rules_named which)

pub returns-clause-none : goal.returns-clause-none
returns-clause-none c = λ which. right-or-broken (rules_named which)
