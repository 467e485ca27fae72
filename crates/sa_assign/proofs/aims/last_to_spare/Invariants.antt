use Rattle.std.proofs.Common.{◌≡◌, length}
use Rattle.sa_assign.specs.Aims.{greatest_below, can_be_spared}
use Rattle.sa_assign.proofs.aims.last_to_spare.Given as goal

abbrev pub invariant-loop-p : goal.invariant-loop-p
invariant-loop-p l = greatest_below l.p (can_be_spared l.shares l.aims) ≡ greatest_below (length l.aims) (can_be_spared l.shares l.aims)
