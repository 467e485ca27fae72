-- A run that ended came so far.
use Rattle.std.proofs.Common.{ℕ, List}
use Rattle.sa_base.specs.declared.record.Item.{Item}
use Rattle.sa_base.specs.declared.record.End.{End}
use Rattle.sa_spaces.specs.Workload.{WorkloadView}
use Rattle.sa_abstract.specs.Calls.{Calls}
use Rattle.sa_sched.specs.Order.{Order}
use Rattle.sa_run.specs.Run.{RunsTo, RunsSoFar}

pub so-far : {U C : Type 0} (f : Calls U C) (w : WorkloadView) (order : Order) (budget : ℕ) (items : List Item) (e : End) (events : ℕ)
    → RunsTo f w order budget items e events → RunsSoFar f w order budget items
so-far f w order budget items e events runs = record { events = events; machine = runs.machine; turns = runs.turns; shows = runs.shows }
