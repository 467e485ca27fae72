use Rattle.std.proofs.Common.{◌≡◌, ◌+◌, ◌*◌, ◌^◌, ◌≤◌, length, drop, sum_by}
use Rattle.sa_kernel.specs.View.{state_of}
use Rattle.sa_kernel.proofs.parts.Parts.taken_count.Given as goal

-- what is left to be counted makes up the rest
abbrev pub invariant-loop-s : goal.invariant-loop-s
invariant-loop-s g l = record {
  is : l.count + sum_by length (drop l.s (state_of l.self).taken) ≡ sum_by length (state_of l.self).taken;
  few : l.count ≤ l.s * 2 ^ 32;
}
