use Rattle.std.proofs.Common.{◌≡◌, take}
use Rattle.sa_explore_run.proofs.workload.copies.Given as goal

-- the spaces before this one are copied
abbrev pub invariant-loop-space : goal.invariant-loop-space
invariant-loop-space l = l.copies.items ≡ take l.space-index l.spaces
