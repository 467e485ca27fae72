use Rattle.std.proofs.Common.{is_none, None}
use Rattle.sa_package_keys.proofs.Trimmed.{PassFrom}
use Rattle.sa_package_keys.proofs.kept.kept_threads.Given as goal

abbrev pub invariant-loop-i : goal.invariant-loop-i
invariant-loop-i l = PassFrom is_none None l.i l.threads
