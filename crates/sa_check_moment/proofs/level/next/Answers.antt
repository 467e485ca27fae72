use Rattle.std.proofs.Common.{Some, None, refl}
use Rattle.sa_check_moment.proofs.level.next.Goals as goal

pub returns-in-None : goal.returns-in-None
returns-in-None c = (None, c.in-None.ensures, refl)

pub returns-in-Some : goal.returns-in-Some
returns-in-Some c = (Some c.in-Some.rank, c.in-Some.ensures, c.newest.ensures)
