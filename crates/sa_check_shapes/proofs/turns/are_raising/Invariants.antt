use Rattle.std.proofs.Common.{◌↔◌, drop}
use Rattle.sa_laws.specs.Turns.{AreRaising}
use Rattle.sa_check_shapes.proofs.turns.are_raising.Given as goal

abbrev pub invariant-loop-what : goal.invariant-loop-what
invariant-loop-what l = AreRaising (drop l.what-index l.records) ↔ AreRaising l.records
