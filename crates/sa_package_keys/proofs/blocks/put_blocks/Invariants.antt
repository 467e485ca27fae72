use Rattle.std.proofs.Common.{◌≡◌, ◌++◌, length, take}
use Rattle.std.specs.List.{flat_map}
use Rattle.sa_package_keys.specs.Codes.{number}
use Rattle.sa_package_keys.specs.Packages.{block_key}
use Rattle.sa_package_keys.proofs.blocks.put_blocks.Given as goal

abbrev pub invariant-loop-block : goal.invariant-loop-block
invariant-loop-block l =
    l.key.items ≡ l.fn.key.items ++ number (length l.blocks) ++ flat_map block_key (take l.block-index l.blocks)
