use Rattle.std.proofs.Common.{◌≡◌, ◌++◌, length, take}
use Rattle.std.specs.List.{flat_map}
use Rattle.sa_package_keys.specs.Codes.{number}
use Rattle.sa_package_keys.specs.Packages.{frame_key}
use Rattle.sa_package_keys.proofs.contexts.put_sections.Given as goal

abbrev pub invariant-loop-frame : goal.invariant-loop-frame
invariant-loop-frame l =
    l.key.items ≡ l.fn.key.items ++ number (length l.frames) ++ flat_map frame_key (take l.frame-index l.frames)
