use Rattle.std.proofs.Common.{◌≡◌, ◌++◌, take, drop, map}
use Rattle.std.specs.Prelude.{filter}
use Rattle.sa_laws.specs.Record.{is_other_note}
use Rattle.sa_check_lives.proofs.lists.remove_note.Given as goal

abbrev pub invariant-loop-i : goal.invariant-loop-i
invariant-loop-i l = l.rows ≡ map (filter (is_other_note l.note)) (take l.i l.initial.rows) ++ drop l.i l.initial.rows
