use Rattle.std.proofs.Common.{◌≡◌, ◌++◌}
use Rattle.sa_package_keys.proofs.Loops.{so_far}
use Rattle.sa_package_keys.specs.Packages.{mutex_key}
use Rattle.sa_package_keys.proofs.sync.put_mutexes.Given as goal

abbrev pub invariant-loop-m : goal.invariant-loop-m
invariant-loop-m l = l.key.items ≡ l.fn.key.items ++ so_far mutex_key l.sync.mutexes l.m
