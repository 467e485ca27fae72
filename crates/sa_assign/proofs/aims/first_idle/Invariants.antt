use Rattle.std.proofs.Common.{◌≡◌, None}
use Rattle.sa_assign.specs.Aims.{least_below, is_idle_and_spared}
use Rattle.sa_assign.proofs.aims.first_idle.Given as goal

abbrev pub invariant-loop-p : goal.invariant-loop-p
invariant-loop-p l = least_below l.p (is_idle_and_spared l.shares l.marks l.aims) ≡ None
