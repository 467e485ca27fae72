use Rattle.sa_histories.proofs.Appended.{events-items, legal-items}
use Rattle.sa_ranks.specs.Packages.{rules_named}
use Rattle.sa_promises.proofs.laws.histories_are_traces.Goals as goal

pub returns-clause-events : goal.returns-clause-events
returns-clause-events c = events-items

pub returns-clause-legal : goal.returns-clause-legal
returns-clause-legal c = λ which. legal-items (rules_named which)
