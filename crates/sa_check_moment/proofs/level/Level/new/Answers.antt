use Rattle.sa_check_moment.proofs.LevelLemmas.{kept-opened}
use Rattle.sa_check_moment.proofs.level.Level.new.Goals as goal

pub returns-in_ok-new-in-Priorities-clause-kept : goal.returns-in_ok-new-in-Priorities-clause-kept
returns-in_ok-new-in-Priorities-clause-kept c = λ w spaces. kept-opened w _ _ spaces c.in_ok-new-in-Priorities.ensures
