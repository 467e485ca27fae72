use Rattle.std.proofs.Common.{◌≡◌, map}
use Rattle.std.specs.List.{range_with_len}
use Rattle.sa_gen.specs.Generated.{generated_space}
use Rattle.sa_gen.proofs.load.spaces.Given as goal

abbrev pub invariant-loop-k : goal.invariant-loop-k
invariant-loop-k l = l.spaces.items ≡ map (generated_space l.n) (range_with_len 0 l.k)
