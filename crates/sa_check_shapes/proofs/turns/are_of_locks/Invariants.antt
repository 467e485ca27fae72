use Rattle.std.proofs.Common.{◌↔◌, drop}
use Rattle.sa_laws.specs.Turns.{AreOfLocks}
use Rattle.sa_check_shapes.proofs.turns.are_of_locks.Given as goal

abbrev pub invariant-loop-what : goal.invariant-loop-what
invariant-loop-what l = AreOfLocks (drop l.what-index l.records) ↔ AreOfLocks l.records
