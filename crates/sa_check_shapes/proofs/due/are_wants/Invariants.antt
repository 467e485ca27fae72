use Rattle.std.proofs.Common.{◌≡◌, ◌↔◌, drop}
use Rattle.sa_laws.specs.Shape.{wants_in}
use Rattle.sa_check_shapes.proofs.due.are_wants.Given as goal

abbrev pub invariant-loop-what : goal.invariant-loop-what
invariant-loop-what l = (wants_in (drop l.what-index l.records) ≡ l.left) ↔ (wants_in l.records ≡ l.due)
