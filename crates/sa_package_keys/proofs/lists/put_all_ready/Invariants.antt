use Rattle.std.proofs.Common.{◌≡◌, ◌++◌}
use Rattle.sa_package_keys.specs.Codes.{number, list}
use Rattle.sa_package_keys.proofs.Loops.{so_far}
use Rattle.sa_package_keys.proofs.lists.put_all_ready.Given as goal

abbrev pub invariant-loop-l : goal.invariant-loop-l
invariant-loop-l l = l.key.items ≡ l.fn.key.items ++ so_far (list number) l.lists.lists l.l
