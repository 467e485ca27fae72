use Rattle.std.proofs.Common.{◌≡◌, ◌↔◌, drop}
use Rattle.sa_laws.specs.Shape.{aims_in}
use Rattle.sa_check_shapes.specs.Due.{changes_of}
use Rattle.sa_check_shapes.proofs.due.are_aims.Given as goal

abbrev pub invariant-loop-what : goal.invariant-loop-what
invariant-loop-what l = (aims_in (drop l.what-index l.records) ≡ changes_of l.left) ↔ (aims_in l.records ≡ changes_of l.due)
