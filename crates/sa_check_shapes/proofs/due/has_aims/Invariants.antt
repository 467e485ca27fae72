use Rattle.std.proofs.Common.{◌≡◌, drop}
use Rattle.sa_laws.specs.Shape.{aims_in}
use Rattle.sa_check_shapes.proofs.due.has_aims.Given as goal

abbrev pub invariant-loop-what : goal.invariant-loop-what
invariant-loop-what l = aims_in l.records ≡ aims_in (drop l.what-index l.records)
