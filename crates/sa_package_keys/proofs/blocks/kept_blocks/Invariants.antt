use Rattle.sa_fast.specs.Threads.{unmade}
use Rattle.sa_package_keys.proofs.Trimmed.{PassFrom}
use Rattle.sa_package_keys.specs.Packages.{is_new}
use Rattle.sa_package_keys.proofs.blocks.kept_blocks.Given as goal

abbrev pub invariant-loop-i : goal.invariant-loop-i
invariant-loop-i l = PassFrom is_new unmade l.i l.blocks
