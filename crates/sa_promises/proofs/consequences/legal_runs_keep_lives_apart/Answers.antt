use Rattle.sa_promises.proofs.lives.Moments.{lives-run-apart}
use Rattle.sa_ranks.specs.Packages.{rules_named}
use Rattle.sa_promises.proofs.consequences.legal_runs_keep_lives_apart.Goals as goal

pub returns : goal.returns
returns c = λ which. lives-run-apart (rules_named which)
