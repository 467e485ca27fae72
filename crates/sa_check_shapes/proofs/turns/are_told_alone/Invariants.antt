use Rattle.std.proofs.Common.{◌↔◌, drop}
use Rattle.sa_laws.specs.Turns.{AreTold}
use Rattle.sa_check_shapes.proofs.turns.are_told_alone.Given as goal

abbrev pub invariant-loop-what : goal.invariant-loop-what
invariant-loop-what l = AreTold (drop l.what-index l.records) ↔ AreTold l.records
