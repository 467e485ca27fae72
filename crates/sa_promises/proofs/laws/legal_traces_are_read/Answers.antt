use Rattle.sa_promises.proofs.words.Moments.{legal-reads}
use Rattle.sa_promises.proofs.words.Once.{covered-whole}
use Rattle.sa_promises.proofs.lives.Moments.{lives-are-read}
use Rattle.sa_ranks.specs.Packages.{rules_named}
use Rattle.sa_promises.proofs.laws.legal_traces_are_read.Goals as goal

pub returns-clause-words : goal.returns-clause-words
returns-clause-words c = λ which. legal-reads (rules_named which)

pub returns-clause-untold : goal.returns-clause-untold
returns-clause-untold c = λ which. covered-whole (rules_named which)

pub returns-clause-lives : goal.returns-clause-lives
returns-clause-lives c = λ which. lives-are-read (rules_named which)
