use Rattle.sa_page.proofs.FailingLemmas.{it-breaks, break-named}
use Rattle.sa_page.proofs.laws.named_records_break.Goals as goal

pub returns-clause-breaks : goal.returns-clause-breaks
returns-clause-breaks c = it-breaks

pub returns-clause-named : goal.returns-clause-named
returns-clause-named c = break-named
