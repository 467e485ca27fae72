use Rattle.sa_check_moment.proofs.LevelLemmas.{next-is, not-fast, not-any}
use Rattle.sa_check_moment.proofs.level.Level.next.Goals as goal

pub returns-in-FastThreads : goal.returns-in-FastThreads
returns-in-FastThreads c = λ a ready ranks kept. absurd (not-fast c.args.self.now c.in-FastThreads.is ranks)

pub returns-in-Any : goal.returns-in-Any
returns-in-Any c = λ a ready ranks kept. absurd (not-any c.args.self.now c.in-Any.is ranks)

pub returns-in-Priorities : goal.returns-in-Priorities
returns-in-Priorities c = λ a ready ranks kept. next-is c.args.self.now a ready _ c.args.s c.next.result c.in-Priorities.is kept c.next.ensures
