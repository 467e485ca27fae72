use Rattle.std.proofs.Common.{◌≡◌, ◌++◌, length, take}
use Rattle.std.specs.List.{flat_map}
use Rattle.sa_package_keys.specs.Codes.{number}
use Rattle.sa_core.specs.View.{machine}
use Rattle.sa_keys.specs.Parts.{entry_bytes}
use Rattle.sa_keys.proofs.ios.put_ios.Given as goal

abbrev pub invariant-loop-io : goal.invariant-loop-io
invariant-loop-io g l =
    l.key.items ≡ (l.fn.key.items ++ number (length l.io-items))
    ++ flat_map (entry_bytes g.U.Keyed.plain g.U.Keyed.context_key (machine l.core)) (take l.io-index l.io-items)
