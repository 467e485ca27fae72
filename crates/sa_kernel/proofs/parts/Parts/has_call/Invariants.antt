use Rattle.std.proofs.Common.{◌≡◌, None}
use Rattle.sa_assign.specs.Aims.{least_below}
use Rattle.sa_kernel.specs.View.{state_of}
use Rattle.sa_kernel_model.specs.Seen.{is_called}
use Rattle.sa_kernel.proofs.parts.Parts.has_call.Given as goal

abbrev pub invariant-loop-s : goal.invariant-loop-s
invariant-loop-s g l = least_below l.s (is_called (state_of l.self)) ≡ None
