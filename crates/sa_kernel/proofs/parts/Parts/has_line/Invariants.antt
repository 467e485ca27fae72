use Rattle.std.proofs.Common.{◌≡◌, None}
use Rattle.sa_assign.specs.Aims.{least_below}
use Rattle.sa_kernel.specs.View.{state_of}
use Rattle.sa_kernel_model.specs.Seen.{is_raised}
use Rattle.sa_kernel.proofs.parts.Parts.has_line.Given as goal

abbrev pub invariant-loop-q : goal.invariant-loop-q
invariant-loop-q g l = least_below l.q (is_raised (state_of l.self)) ≡ None
