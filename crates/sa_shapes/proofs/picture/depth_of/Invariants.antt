use Rattle.std.proofs.Common.{◌≡◌, drop}
use Rattle.sa_shapes.specs.Picture.{depth_from, depth_of}
use Rattle.sa_shapes.proofs.picture.depth_of.Given as goal

abbrev pub invariant-loop-shape : goal.invariant-loop-shape
invariant-loop-shape l = depth_from l.depth (drop l.shape-index l.shapes) ≡ depth_of l.shapes
