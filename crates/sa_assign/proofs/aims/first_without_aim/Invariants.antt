use Rattle.std.proofs.Common.{◌≡◌, None}
use Rattle.sa_assign.specs.Aims.{least_below, has_no_aim}
use Rattle.sa_assign.proofs.aims.first_without_aim.Given as goal

abbrev pub invariant-loop-p : goal.invariant-loop-p
invariant-loop-p l = least_below l.p (has_no_aim l.aims) ≡ None
