use Rattle.std.proofs.Common.{◌≡◌, ◌++◌, length, take}
use Rattle.std.specs.List.{flat_map}
use Rattle.sa_package_keys.specs.Codes.{number}
use Rattle.sa_package_keys.proofs.put.put_words.Given as goal

abbrev pub invariant-loop-n : goal.invariant-loop-n
invariant-loop-n l = l.key.items ≡ l.fn.key.items ++ number (length l.words) ++ flat_map number (take l.n-index l.words)
