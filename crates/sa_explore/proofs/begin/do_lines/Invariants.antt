use Rattle.std.proofs.Common.{◌≡◌, ◌≤◌, ◌-◌, length, take}
use Rattle.sa_base.specs.declared.limits.TheConstants.{MAX_EVENTS}
use Rattle.sa_core.specs.View.{machine}
use Rattle.sa_explore_runs.specs.Runs.{LeadTo}
use Rattle.sa_explore.proofs.begin.do_lines.Given as goal

abbrev pub invariant-loop-made : goal.invariant-loop-made
invariant-loop-made g l = record {
  within : l.made ≤ length l.turns;
  leads : LeadTo g.U.UserLevel.calls l.workload (take l.made l.turns) (machine l.core);
  budget : l.core.budget ≡ MAX_EVENTS;
}

abbrev pub decreases-loop-made : goal.decreases-loop-made
decreases-loop-made g l = length l.turns - l.made
