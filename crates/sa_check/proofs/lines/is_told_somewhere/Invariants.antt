use Rattle.std.proofs.Common.{◌≡◌, None}
use Rattle.sa_assign.specs.Aims.{least_below}
use Rattle.sa_laws.specs.Closing.{will_tell}
use Rattle.sa_check_moment.specs.Seen.{seen}
use Rattle.sa_check.proofs.lines.is_told_somewhere.Given as goal

abbrev pub invariant-loop-p : goal.invariant-loop-p
invariant-loop-p l = least_below l.p (will_tell (seen l.moment).readings l.s) ≡ None
