use Rattle.std.proofs.Common.{length}
use Rattle.sa_laws.specs.Event.{events_of}
use Rattle.sa_check_moment.specs.Seen.{seen}
use Rattle.sa_page.proofs.FailingLemmas.{Looks}
use Rattle.sa_page.proofs.failing.failing_at.Given as goal

-- what is found of the rest is what is found of all
abbrev pub invariant-loop-now : goal.invariant-loop-now
invariant-loop-now l = Looks l.rule l.number (seen l.fn.start.moment) (events_of l.fn.items) (seen l.now.moment) (events_of l.rest)

abbrev pub decreases-loop-now : goal.decreases-loop-now
decreases-loop-now l = length l.rest
