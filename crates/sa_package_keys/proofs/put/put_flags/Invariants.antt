use Rattle.std.proofs.Common.{◌≡◌, ◌++◌, length, take}
use Rattle.std.specs.List.{flat_map}
use Rattle.sa_package_keys.specs.Codes.{number, flag}
use Rattle.sa_package_keys.proofs.put.put_flags.Given as goal

abbrev pub invariant-loop-is : goal.invariant-loop-is
invariant-loop-is l = l.key.items ≡ l.fn.key.items ++ number (length l.flags) ++ flat_map flag (take l.is-index l.flags)
