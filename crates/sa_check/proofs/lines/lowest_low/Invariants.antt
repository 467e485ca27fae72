use Rattle.std.proofs.Common.{◌≡◌, None}
use Rattle.sa_assign.specs.Aims.{least_below}
use Rattle.sa_laws.specs.Closing.{can_be_raised}
use Rattle.sa_check_moment.specs.Seen.{seen}
use Rattle.sa_check.proofs.lines.lowest_low.Given as goal

abbrev pub invariant-loop-p : goal.invariant-loop-p
invariant-loop-p l = least_below l.p (can_be_raised (seen l.moment).readings l.s) ≡ None
