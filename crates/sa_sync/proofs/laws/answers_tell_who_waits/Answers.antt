use Rattle.sa_sync.proofs.LawLemmas.{locked_tells, unlocked_tells, waited_tells, signalled_tells, joined_tells}
use Rattle.sa_sync.proofs.laws.answers_tell_who_waits.Goals as goal

pub returns : goal.returns
returns c = (locked_tells, unlocked_tells, waited_tells, signalled_tells, joined_tells)
