use Rattle.std.proofs.Common.{[]}
use Rattle.sa_package_keys.proofs.Trimmed.{PassFrom}
use Rattle.sa_package_keys.specs.Packages.{is_empty}
use Rattle.sa_package_keys.proofs.works.kept_works.Given as goal

abbrev pub invariant-loop-t : goal.invariant-loop-t
invariant-loop-t l = PassFrom is_empty [] l.t l.works
