use Rattle.std.proofs.Common.{◌≡◌, ◌++◌}
use Rattle.sa_shapes.specs.Picture.{spaces_shapes}
use Rattle.sa_shapes.proofs.picture.push_spaces.Given as goal

abbrev pub invariant-loop-s : goal.invariant-loop-s
invariant-loop-s l = l.out.items ≡ l.initial.out.items ++ spaces_shapes l.window l.items l.s
