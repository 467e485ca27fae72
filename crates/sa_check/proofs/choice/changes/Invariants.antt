use Rattle.std.proofs.Common.{◌≡◌, ◌-◌, ◌≤◌, length, []}
use Rattle.sa_base.specs.declared.limits.TheConstants.{MAX_PROCESSORS}
use Rattle.sa_assign.specs.Aims.{changes_from}
use Rattle.sa_check.specs.Reaimed.{carried, reaimed}
use Rattle.sa_check.proofs.choice.changes.Given as goal

abbrev pub invariant-loop-s : goal.invariant-loop-s
invariant-loop-s l = record {
  carried : carried (changes_from l.s (l.spaces - l.s) l.shares l.marks l.reaimed.aims.items) (reaimed l.reaimed)
      ≡ carried (changes_from 0 l.spaces l.shares l.marks l.fn.aims) (l.fn.aims, []);
  few : length l.reaimed.aims.items ≤ MAX_PROCESSORS;
}
