use Rattle.std.proofs.Common.{◌≡◌, None}
use Rattle.sa_assign.specs.Aims.{least_below}
use Rattle.sa_kernel.specs.View.{state_of}
use Rattle.sa_kernel_model.specs.Closing.{has_low_line}
use Rattle.sa_kernel.proofs.parts.Parts.first_low.Given as goal

abbrev pub invariant-loop-q : goal.invariant-loop-q
invariant-loop-q g l = least_below l.q (has_low_line (state_of l.self) l.s.0) ≡ None
