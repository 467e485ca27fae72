use Rattle.std.proofs.Common.{◌≡◌, ◌++◌, drop}
use Rattle.sa_shapes.specs.Stretches.{stretches_from, stretches}
use Rattle.sa_shapes.proofs.stretches.push_stretches.Given as goal

abbrev pub invariant-loop-k : goal.invariant-loop-k
invariant-loop-k l =
    l.out.items ++ stretches_from l.window l.track l.going l.k (drop l.k l.items)
    ≡ l.initial.out.items ++ stretches l.window l.items l.track
