use Rattle.std.proofs.Common.{◌≡◌, ◌++◌}
use Rattle.sa_package_keys.specs.Codes.{flag}
use Rattle.sa_package_keys.proofs.Loops.{so_far}
use Rattle.sa_package_keys.proofs.lists.put_locks.Given as goal

abbrev pub invariant-loop-l : goal.invariant-loop-l
invariant-loop-l l = l.key.items ≡ l.fn.key.items ++ so_far flag l.lists.locked l.l
