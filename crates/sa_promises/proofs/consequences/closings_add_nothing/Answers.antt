use Rattle.sa_promises.proofs.closing.Closings.{closings-add-nothing}
use Rattle.sa_ranks.specs.Packages.{rules_named}
use Rattle.sa_promises.proofs.consequences.closings_add_nothing.Goals as goal

pub returns : goal.returns
returns c = λ which. closings-add-nothing (rules_named which)
