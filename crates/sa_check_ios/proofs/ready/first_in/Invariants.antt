use Rattle.std.proofs.Common.{◌≡◌, drop}
use Rattle.std.specs.Prelude.{find}
use Rattle.sa_laws.specs.Readings.{is_in}
use Rattle.sa_check_ios.proofs.ready.first_in.Given as goal

abbrev pub invariant-loop-x : goal.invariant-loop-x
invariant-loop-x l = find (is_in l.l) (drop l.x-index l.listed) ≡ find (is_in l.l) l.listed
