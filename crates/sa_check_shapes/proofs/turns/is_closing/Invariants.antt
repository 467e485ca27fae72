use Rattle.std.proofs.Common.{◌↔◌, drop}
use Rattle.sa_laws.specs.Turns.{IsClosing}
use Rattle.sa_check_shapes.proofs.turns.is_closing.Given as goal

abbrev pub invariant-loop-i : goal.invariant-loop-i
invariant-loop-i l = IsClosing (drop l.i l.records) ↔ IsClosing l.records
