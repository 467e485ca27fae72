use Rattle.std.proofs.Common.{◌≡◌, None}
use Rattle.sa_assign.specs.Aims.{least_below}
use Rattle.sa_ranks.specs.Pairs.{is_pair_on}
use Rattle.sa_check_moment.specs.Seen.{seen}
use Rattle.sa_check_moment.proofs.moment.Moment.has_pair.Given as goal

abbrev pub invariant-loop-q : goal.invariant-loop-q
invariant-loop-q l = least_below l.q (is_pair_on (seen l.self).readings l.s) ≡ None
