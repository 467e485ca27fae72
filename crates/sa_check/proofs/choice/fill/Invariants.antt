use Rattle.std.proofs.Common.{◌≡◌, ◌-◌, ◌≤◌, length}
use Rattle.sa_base.specs.declared.limits.TheConstants.{MAX_PROCESSORS}
use Rattle.sa_assign.specs.Aims.{changes_for}
use Rattle.sa_check.specs.Reaimed.{carried, reaimed}
use Rattle.sa_check.proofs.choice.fill.Given as goal

abbrev pub invariant-loop : goal.invariant-loop
invariant-loop l = record {
  carried : carried (changes_for (l.missing - l.counter) l.shares l.marks l.s.0 l.now.aims.items) (reaimed l.now)
      ≡ carried (changes_for l.missing l.shares l.marks l.s.0 l.fn.now.aims.items) (reaimed l.fn.now);
  few : length l.now.aims.items ≤ MAX_PROCESSORS;
}
