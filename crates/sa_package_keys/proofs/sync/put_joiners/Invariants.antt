use Rattle.std.proofs.Common.{◌≡◌, ◌++◌, take}
use Rattle.sa_base.specs.declared.limits.TheConstants.{MAX_THREADS}
use Rattle.sa_package_keys.specs.Codes.{number, list}
use Rattle.sa_package_keys.proofs.Loops.{so_far}
use Rattle.sa_package_keys.proofs.sync.put_joiners.Given as goal

abbrev pub invariant-loop-t : goal.invariant-loop-t
invariant-loop-t l =
    l.key.items ≡ (l.fn.key.items ++ number MAX_THREADS) ++ so_far (list number) (take l.kept l.sync.joiners) l.t
