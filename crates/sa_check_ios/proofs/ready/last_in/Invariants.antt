use Rattle.std.proofs.Common.{◌≡◌, take}
use Rattle.std.specs.Prelude.{filter}
use Rattle.sa_laws.specs.Readings.{is_in}
use Rattle.sa_laws.specs.Locks.{newest}
use Rattle.sa_check_ios.proofs.ready.last_in.Given as goal

abbrev pub invariant-loop-x : goal.invariant-loop-x
invariant-loop-x l = l.last ≡ newest (filter (is_in l.l) (take l.x-index l.listed))
