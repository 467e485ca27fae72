use Rattle.std.proofs.Common.{◌≡◌, drop}
use Rattle.std.specs.List.{list_any}
use Rattle.sa_laws.specs.Any.{is_handed}
use Rattle.sa_check_moment.specs.Seen.{seen}
use Rattle.sa_check_moment.proofs.moment.Moment.has_heard_hand.Given as goal

-- some thread was handed over exactly where one was that was not looked at
abbrev pub invariant-loop-t : goal.invariant-loop-t
invariant-loop-t l =
    list_any (is_handed (seen l.self).readings l.s) (drop l.t-index l.t-items) ≡ list_any (is_handed (seen l.self).readings l.s) l.t-items
