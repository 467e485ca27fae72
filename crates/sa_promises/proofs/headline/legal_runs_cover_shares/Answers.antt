use Rattle.sa_promises.proofs.words.Timely.{keeps-shares-covered}
use Rattle.sa_ranks.specs.Packages.{rules_named}
use Rattle.sa_promises.proofs.headline.legal_runs_cover_shares.Goals as goal

pub returns : goal.returns
returns c = λ which. keeps-shares-covered (rules_named which)
