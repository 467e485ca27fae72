use Rattle.std.proofs.Common.{◌≡◌, ◌≤◌, ◌-◌, length}
use Rattle.sa_prio_model.specs.Prio.{lowest_below}
use Rattle.sa_prio.proofs.threads.PrioThreads.lowest.Given as goal

-- the processors before `from` were looked at
abbrev pub invariant-loop-q : goal.invariant-loop-q
invariant-loop-q l = (l.from ≤ length l.self.on) × (l.lowest ≡ lowest_below l.self l.seen l.best l.from)

abbrev pub decreases-loop-q : goal.decreases-loop-q
decreases-loop-q l = length l.self.on - l.from
