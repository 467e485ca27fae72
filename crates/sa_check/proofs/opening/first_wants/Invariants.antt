use Rattle.std.proofs.Common.{◌≡◌, ◌++◌, map}
use Rattle.sa_laws.specs.Closing.{want_one}
use Rattle.sa_laws.specs.Opening.{first_wants}
use Rattle.sa_check.proofs.EachLemmas.{from}
use Rattle.sa_check.proofs.opening.first_wants.Given as goal

abbrev pub invariant-loop-s : goal.invariant-loop-s
invariant-loop-s l = l.records.items ++ map want_one (from l.s l.s-end) ≡ first_wants l.workload
