use Rattle.std.proofs.Common.{◌≡◌, ◌∷◌, ◌++◌, decimal, take}
use Rattle.std.specs.List.{flat_map}
use Rattle.sa_workload.proofs.push.push_numbers.Given as goal

abbrev pub invariant-loop-n : goal.invariant-loop-n
invariant-loop-n l = l.out.items ≡ l.initial.out.items ++ flat_map (λ n. 32 ∷ decimal n) (take l.n-index l.numbers)
