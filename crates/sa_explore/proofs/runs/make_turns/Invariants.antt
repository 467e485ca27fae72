use Rattle.std.proofs.Common.{◌≡◌, take}
use Rattle.sa_base.specs.declared.limits.TheConstants.{MAX_EVENTS}
use Rattle.sa_core.specs.View.{machine}
use Rattle.sa_explore_runs.specs.Runs.{LeadTo}
use Rattle.sa_explore.proofs.runs.make_turns.Given as goal

-- the turns before this one are made
abbrev pub invariant-loop-p : goal.invariant-loop-p
invariant-loop-p g l = record {
  lead : LeadTo g.U.UserLevel.calls (machine l.initial.core).workload (take l.p-index l.turns) (machine l.core);
  workload : (machine l.core).workload ≡ (machine l.initial.core).workload;
  event : (machine l.core).event ≡ l.p-index;
  budget : l.core.budget ≡ MAX_EVENTS;
}
