use Rattle.std.proofs.Common.{◌≡◌, drop}
use Rattle.sa_check_ios.specs.Kept.{soonest_of, nearer}
use Rattle.sa_check_ios.proofs.under_way.soonest_of.Given as goal

abbrev pub invariant-loop-io : goal.invariant-loop-io
invariant-loop-io l = nearer l.soonest (soonest_of (drop l.io-index l.ios)) ≡ soonest_of l.ios
