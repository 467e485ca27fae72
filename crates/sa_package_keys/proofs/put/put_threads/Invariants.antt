use Rattle.std.proofs.Common.{◌≡◌, ◌++◌, length, take}
use Rattle.std.specs.List.{flat_map}
use Rattle.sa_package_keys.specs.Codes.{number, thread_key}
use Rattle.sa_package_keys.proofs.put.put_threads.Given as goal

abbrev pub invariant-loop-thread : goal.invariant-loop-thread
invariant-loop-thread l = l.key.items ≡ l.fn.key.items ++ number (length l.threads) ++ flat_map thread_key (take l.thread-index l.threads)
