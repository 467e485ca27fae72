use Rattle.std.proofs.Common.{◌≡◌, drop}
use Rattle.std.specs.List.{list_any}
use Rattle.sa_laws.specs.State.{space_at}
use Rattle.sa_laws.specs.Readings.{counts}
use Rattle.sa_check_moment.specs.Seen.{seen}
use Rattle.sa_check_moment.proofs.moment.Moment.has_hand.Given as goal

-- some one counts exactly where one does that was not looked at
abbrev pub invariant-loop-t : goal.invariant-loop-t
invariant-loop-t l =
    list_any (counts (space_at (seen l.self).readings.state l.s)) (drop l.t-index l.t-items)
    ≡ list_any (counts (space_at (seen l.self).readings.state l.s)) l.t-items
