use Rattle.std.proofs.Common.{◌≡◌, None}
use Rattle.sa_assign.specs.Aims.{least_below}
use Rattle.sa_core_model.specs.End.{is_inside}
use Rattle.sa_machine.specs.View.{machine_of}
use Rattle.sa_machine.proofs.machine.MachineParts.is_any_inside.Given as goal

abbrev pub invariant-loop-p : goal.invariant-loop-p
invariant-loop-p g l = least_below l.p (is_inside g.U.UserLevel.calls (machine_of l.self)) ≡ None
