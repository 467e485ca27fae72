use Rattle.std.proofs.Common.{◌≡◌, ◌<◌, ◌++◌, take}
use Rattle.std.specs.Prelude.{decimal}
use Rattle.sa_trace.proofs.quick.digits.Given as goal

-- the number has these digits so far
abbrev pub invariant-loop-at : goal.invariant-loop-at
invariant-loop-at l = (0 < l.number) × (decimal l.fn.first ++ take l.at l.bytes ≡ decimal l.number)
