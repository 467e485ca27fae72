use Rattle.std.proofs.Common.{length}
use Rattle.sa_laws.specs.Event.{events_of}
use Rattle.sa_check_moment.specs.Seen.{seen}
use Rattle.sa_page.proofs.EndedLemmas.{Leads}
use Rattle.sa_page.proofs.ended.ended.Given as goal

-- what the rest leads to, all items lead to
abbrev pub invariant-loop-now : goal.invariant-loop-now
invariant-loop-now l = Leads (seen l.fn.view.moment) (events_of l.fn.items) (seen l.now.moment) (events_of l.rest)

abbrev pub decreases-loop-now : goal.decreases-loop-now
decreases-loop-now l = length l.rest
