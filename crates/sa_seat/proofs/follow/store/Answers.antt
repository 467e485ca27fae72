use Rattle.std.proofs.Common.{rules}
use Rattle.sa_seat.proofs.follow.store.Goals as goal

pub returns-in-Some : goal.returns-in-Some
returns-in-Some c = search rules
