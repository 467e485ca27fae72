use Rattle.std.proofs.Common.{◌≡◌, drop}
use Rattle.std.specs.Prelude.{find}
use Rattle.sa_devices.specs.Ios.{fetches}
use Rattle.sa_check_ios.proofs.under_way.first_fetch.Given as goal

-- the first that fetches the page is among those that were not looked at
abbrev pub invariant-loop-io : goal.invariant-loop-io
invariant-loop-io l = find (fetches l.s.0) (drop l.io-index l.ios) ≡ find (fetches l.s.0) l.ios
