use Rattle.std.proofs.Common.{not, false}
use Rattle.sa_package_keys.proofs.Trimmed.{PassFrom}
use Rattle.sa_package_keys.proofs.kept.kept_flags.Given as goal

abbrev pub invariant-loop-i : goal.invariant-loop-i
invariant-loop-i l = PassFrom not false l.i l.flags
