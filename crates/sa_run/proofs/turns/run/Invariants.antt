use Rattle.std.proofs.Common.{◌≡◌, ◌-◌, ◌≤◌}
use Rattle.sa_sched.specs.Kind.{order_of}
use Rattle.sa_sched.specs.Turns.{start, turned_often}
use Rattle.sa_core.specs.View.{machine}
use Rattle.sa_run.specs.Run.{TurnsTo}
use Rattle.sa_run.proofs.turns.run.Given as goal

abbrev pub invariant-loop-end : goal.invariant-loop-end
invariant-loop-end g l = record {
  turns : TurnsTo g.U.UserLevel.calls l.fn.workload (order_of l.fn.kind) l.fn.budget (machine l.core).event (machine l.core);
  schedule : l.schedule ≡ turned_often (start (order_of l.fn.kind) l.fn.workload.processors) (machine l.core).event;
  processors : l.schedule.processors ≡ l.fn.workload.processors;
  workload : (machine l.core).workload ≡ l.fn.workload;
  budget : l.core.budget ≡ l.fn.budget;
  within : (machine l.core).event ≤ l.fn.budget;
}

abbrev pub decreases-loop-end : goal.decreases-loop-end
decreases-loop-end g l = l.fn.budget - (machine l.core).event
