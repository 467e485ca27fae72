use Rattle.std.proofs.Common.{◌≡◌, ◌++◌}
use Rattle.sa_package_keys.specs.Codes.{number}
use Rattle.sa_package_keys.proofs.Loops.{so_far}
use Rattle.sa_package_keys.proofs.blocks.put_registers.Given as goal

abbrev pub invariant-loop-n : goal.invariant-loop-n
invariant-loop-n l = l.key.items ≡ l.fn.key.items ++ so_far number l.regs l.n
