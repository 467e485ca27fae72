-- Runs of records that pass a test.
use Rattle.std.specs.Prelude.{Bool, List, [], ◌∷◌, take_while}
use Rattle.sa_base.specs.declared.record.Record.{Record}
use Rattle.sa_laws.specs.Shape.{is_own, is_no_aim, is_no_want, is_of_leave}
use Rattle.sa_check_shapes.specs.declared.parts.Run.{Run}
use Rattle.sa_check_shapes.specs.declared.parts.Run.TheVariants.{Own, NoAim, NoWant, Leave}

abbrev pub test_of : Run → Record → Bool
test_of Own = is_own
test_of NoAim = is_no_aim
test_of NoWant = is_no_want
test_of Leave = is_of_leave

-- the first record, and those after it that pass the test
abbrev pub first_and_run : Run → List Record → List Record
first_and_run run [] = []
first_and_run run (first ∷ others) = first ∷ take_while (test_of run) others
