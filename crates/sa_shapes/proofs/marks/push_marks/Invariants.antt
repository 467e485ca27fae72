use Rattle.std.proofs.Common.{◌≡◌, ◌++◌, drop}
use Rattle.sa_shapes.specs.Marks.{marks_from, marks}
use Rattle.sa_shapes.proofs.marks.push_marks.Given as goal

abbrev pub invariant-loop-item : goal.invariant-loop-item
invariant-loop-item l =
    l.out.items ++ marks_from l.window l.lane l.stack (drop l.item-index l.items)
    ≡ l.initial.out.items ++ marks l.window l.items l.lane
