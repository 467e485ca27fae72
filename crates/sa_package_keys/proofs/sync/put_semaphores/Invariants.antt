use Rattle.std.proofs.Common.{◌≡◌, ◌++◌}
use Rattle.sa_package_keys.proofs.Loops.{so_far}
use Rattle.sa_package_keys.specs.Packages.{semaphore_key}
use Rattle.sa_package_keys.proofs.sync.put_semaphores.Given as goal

abbrev pub invariant-loop-k : goal.invariant-loop-k
invariant-loop-k l = l.key.items ≡ l.fn.key.items ++ so_far semaphore_key l.sync.semaphores l.k
