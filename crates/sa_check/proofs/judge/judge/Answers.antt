use Rattle.sa_check.proofs.JudgeLemmas.{numbering-breaks}
use Rattle.sa_check.proofs.judge.judge.Goals as goal

pub returns-then-not-numbered : goal.returns-then-not-numbered
returns-then-not-numbered c = numbering-breaks _ _ _ _ _ c.in-Ok.numbered c.in-Ok.ensures c.if-not-numbered.true
