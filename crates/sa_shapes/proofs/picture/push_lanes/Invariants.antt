use Rattle.std.proofs.Common.{◌≡◌, ◌++◌}
use Rattle.sa_shapes.specs.Picture.{lanes_shapes}
use Rattle.sa_shapes.proofs.picture.push_lanes.Given as goal

abbrev pub invariant-loop-p : goal.invariant-loop-p
invariant-loop-p l = l.out.items ≡ l.initial.out.items ++ lanes_shapes l.window l.items l.p
