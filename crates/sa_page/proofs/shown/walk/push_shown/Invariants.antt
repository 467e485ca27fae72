use Rattle.std.proofs.Common.{length}
use Rattle.sa_laws.specs.Event.{events_of}
use Rattle.sa_check_moment.specs.Seen.{seen}
use Rattle.sa_page.proofs.ShownLemmas.{Continues}
use Rattle.sa_page.proofs.shown.walk.push_shown.Given as goal

-- what shows the rest behind what was written shows the whole
abbrev pub invariant-loop-pair : goal.invariant-loop-pair
invariant-loop-pair l =
    Continues (seen l.fn.pair.now.moment) l.fn.pair.ups.items (events_of l.fn.items) l.initial.out.items (seen l.pair.now.moment) l.pair.ups.items (events_of l.rest)
    l.out.items

abbrev pub decreases-loop-pair : goal.decreases-loop-pair
decreases-loop-pair l = length l.rest
