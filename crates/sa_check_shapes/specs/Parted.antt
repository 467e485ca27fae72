-- Lists by their first records.
use Rattle.std.specs.Prelude.{List, [], ◌∷◌}
use Rattle.std.specs.List.{list_any}
use Rattle.sa_base.specs.declared.record.Record.{Record}
use Rattle.sa_laws.specs.Turns.{is_of_locks}
use Rattle.sa_laws.specs.Locks.{StandsAlone}

-- where an operation on ready lists is among the records, it is alone
abbrev pub OperatesAlone : List Record → Type 0
OperatesAlone [] = Unit {0}
OperatesAlone (first ∷ others) = StandsAlone (list_any is_of_locks (first ∷ others)) others
