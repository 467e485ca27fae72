use Rattle.std.proofs.Common.{◌≡◌, ◌↔◌, drop}
use Rattle.sa_laws.specs.Shape.{told_run}
use Rattle.sa_check_shapes.proofs.due.tells.Given as goal

abbrev pub invariant-loop-what : goal.invariant-loop-what
invariant-loop-what l = (told_run (drop l.what-index l.records) ≡ l.left) ↔ (told_run l.records ≡ l.notes)
