use Rattle.std.proofs.Common.{◌≡◌, ◌++◌, take}
use Rattle.std.specs.List.{flat_map}
use Rattle.sa_svg.specs.Drawing.{shape_text}
use Rattle.sa_svg.proofs.drawing.push_shapes.Given as goal

abbrev pub invariant-loop-shape : goal.invariant-loop-shape
invariant-loop-shape l = l.out.items ≡ l.initial.out.items ++ flat_map (shape_text l.layout l.window l.items) (take l.shape-index l.shapes)
