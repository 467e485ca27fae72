use Rattle.std.proofs.Common.{◌≡◌, drop}
use Rattle.sa_shapes.specs.Extent.{extent_from, extent_of}
use Rattle.sa_shapes.proofs.extent.measure.Given as goal

abbrev pub invariant-loop-item : goal.invariant-loop-item
invariant-loop-item l = extent_from l.window l.extent (drop l.item-index l.items) ≡ extent_of l.window l.items
