-- What is due, as the code has it.
use Rattle.std.specs.Prelude.{List, map}
use Rattle.sa_assign.specs.Aims.{Change}
use Rattle.sa_check_shapes.specs.declared.due.Aimed.{Aimed}

abbrev pub change_of : Aimed → Change
change_of aimed = record { proc = aimed.proc.0; space = aimed.space.0 }

abbrev pub changes_of : List Aimed → List Change
changes_of due = map change_of due
