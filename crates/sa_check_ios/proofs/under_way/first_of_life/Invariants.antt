use Rattle.std.proofs.Common.{◌≡◌, drop}
use Rattle.std.specs.Prelude.{find}
use Rattle.sa_laws.specs.Record.{is_io_of}
use Rattle.sa_check_ios.proofs.under_way.first_of_life.Given as goal

-- the first that is of the life is among those that were not looked at
abbrev pub invariant-loop-io : goal.invariant-loop-io
invariant-loop-io l = find (is_io_of l.a) (drop l.io-index l.ios) ≡ find (is_io_of l.a) l.ios
