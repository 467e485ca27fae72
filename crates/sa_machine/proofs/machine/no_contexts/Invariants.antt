use Rattle.std.proofs.Common.{◌≡◌, None, replicate}
use Rattle.sa_machine.proofs.machine.no_contexts.Given as goal

abbrev pub invariant-loop-p : goal.invariant-loop-p
invariant-loop-p g l = l.contexts.items ≡ replicate l._p None
