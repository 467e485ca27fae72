use Rattle.std.proofs.Common.{drop}
use Rattle.sa_check_moment.specs.Seen.{seen}
use Rattle.sa_check.specs.Items.{told_event}
use Rattle.sa_page.proofs.FailingLemmas.{Seeks}
use Rattle.sa_page.proofs.failing.failing_of.Given as goal

-- what is found of the rest is what is found of all
abbrev pub invariant-loop-i : goal.invariant-loop-i
invariant-loop-i l = Seeks l.rule (seen l.fn.start.moment) (seen l.now.moment) (told_event l.fn.event) l.i (drop l.i l.records)
