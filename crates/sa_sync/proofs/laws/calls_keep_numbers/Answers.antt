use Rattle.sa_sync.proofs.Numbers.{locked_keeps, unlocked_keeps, waited_keeps, signalled_keeps, joined_keeps, finished_keeps, without_joiner_keeps, stored_keeps}
use Rattle.sa_sync.proofs.laws.calls_keep_numbers.Goals as goal

pub returns : goal.returns
returns c = (locked_keeps, unlocked_keeps, waited_keeps, signalled_keeps, joined_keeps, finished_keeps, without_joiner_keeps, stored_keeps)
