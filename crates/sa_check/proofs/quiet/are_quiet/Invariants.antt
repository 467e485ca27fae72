use Rattle.std.proofs.Common.{◌≡◌, drop}
use Rattle.std.specs.List.{list_all}
use Rattle.sa_check.specs.Quiet.{is_quiet_record}
use Rattle.sa_check.proofs.quiet.are_quiet.Given as goal

-- the records from here are quiet exactly where all are
abbrev pub invariant-loop-what : goal.invariant-loop-what
invariant-loop-what l = list_all is_quiet_record (drop l.what-index l.records) ≡ list_all is_quiet_record l.records
