-- Aims as they are changed, and the changes.
use Rattle.std.specs.Prelude.{List, ◌++◌, Option}
use Rattle.sa_base.specs.declared.number.SpaceNo.{SpaceNo}
use Rattle.sa_assign.specs.Aims.{Change, aims_after}
use Rattle.sa_check_shapes.specs.Due.{changes_of}
use Rattle.sa_check.specs.declared.choice.Reaimed.{Reaimed}

-- the aims and the changes that were made
abbrev pub reaimed : Reaimed → List (Option SpaceNo) × List Change
reaimed x = (x.aims.items, changes_of x.due.items)

-- more changes are made
abbrev pub carried : List Change → List (Option SpaceNo) × List Change → List (Option SpaceNo) × List Change
carried cs x = (aims_after x.0 cs, x.1 ++ cs)
