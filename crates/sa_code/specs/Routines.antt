-- The routines of the package, as lists of micro-operations.
use Rattle.std.specs.Prelude.{List, [], ◌∷◌}
use Rattle.sa_code.specs.declared.code.Op.{Op}
use Rattle.sa_code.specs.declared.code.Op.TheVariants.{TakePush, Push, TakePop, Pop, Free, Leave}

-- a push: places 0 to 3; a pop: places 4 to 7
abbrev pub routine_ops : List Op
routine_ops = TakePush ∷ Push ∷ Free ∷ Leave ∷ TakePop ∷ Pop ∷ Free ∷ Leave ∷ []
