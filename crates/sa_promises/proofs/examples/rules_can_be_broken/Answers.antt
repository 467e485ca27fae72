use Rattle.sa_promises.proofs.Broken.{breaks-Numbered, breaks-Stepwise, breaks-ToldOnce, breaks-ToldInTime, breaks-WhereOwned, breaks-AllTold, breaks-UpcallGiven, breaks-InterruptNext, breaks-LineCause, breaks-WantCause, breaks-SharesCovered, breaks-DemandAnnounced, breaks-TurnsTaken, breaks-LocksKept, breaks-EndTold}
use Rattle.sa_promises.proofs.Forking.{breaks-OrderKept}
use Rattle.sa_promises.proofs.examples.rules_can_be_broken.Goals as goal

pub returns-clause-opening : goal.returns-clause-opening
returns-clause-opening c = breaks-Numbered

pub returns-clause-step : goal.returns-clause-step
returns-clause-step c = breaks-Stepwise

pub returns-clause-once : goal.returns-clause-once
returns-clause-once c = breaks-ToldOnce

pub returns-clause-in_time : goal.returns-clause-in_time
returns-clause-in_time c = breaks-ToldInTime

pub returns-clause-owned : goal.returns-clause-owned
returns-clause-owned c = breaks-WhereOwned

pub returns-clause-all : goal.returns-clause-all
returns-clause-all c = breaks-AllTold

pub returns-clause-block : goal.returns-clause-block
returns-clause-block c = breaks-UpcallGiven

pub returns-clause-interrupt : goal.returns-clause-interrupt
returns-clause-interrupt c = breaks-InterruptNext

pub returns-clause-line : goal.returns-clause-line
returns-clause-line c = breaks-LineCause

pub returns-clause-want : goal.returns-clause-want
returns-clause-want c = breaks-WantCause

pub returns-clause-aims : goal.returns-clause-aims
returns-clause-aims c = breaks-SharesCovered

pub returns-clause-demand : goal.returns-clause-demand
returns-clause-demand c = breaks-DemandAnnounced

pub returns-clause-turn : goal.returns-clause-turn
returns-clause-turn c = breaks-TurnsTaken

pub returns-clause-locks : goal.returns-clause-locks
returns-clause-locks c = breaks-LocksKept

pub returns-clause-order : goal.returns-clause-order
returns-clause-order c = breaks-OrderKept

pub returns-clause-end : goal.returns-clause-end
returns-clause-end c = breaks-EndTold
