use Rattle.std.proofs.Common.{◌≡◌, ℕ, ◌<◌, false}
use Rattle.sa_ranks.specs.Pairs.{outranked_on}
use Rattle.sa_check_moment.specs.Seen.{seen}
use Rattle.sa_check_moment.specs.Urged.{is_lower}
use Rattle.sa_check_moment.proofs.moment.Moment.is_lowest.Given as goal

-- none of those that were looked at is lower
abbrev pub invariant-loop-other : goal.invariant-loop-other
invariant-loop-other l =
    (k : ℕ) → k < l.other → is_lower (outranked_on (seen l.self).readings l.s (record { 0 = k })) (record { 0 = k }) l.q l.rank ≡ false
