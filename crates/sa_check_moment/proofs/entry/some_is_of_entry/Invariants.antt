use Rattle.std.proofs.Common.{◌≡◌, drop}
use Rattle.std.specs.List.{list_any}
use Rattle.sa_ranks.specs.Inside.{is_of_entry}
use Rattle.sa_check_moment.proofs.entry.some_is_of_entry.Given as goal

-- a record of an entry is among the records exactly where one is among those that were not looked at
abbrev pub invariant-loop-what : goal.invariant-loop-what
invariant-loop-what l = list_any is_of_entry (drop l.what-index l.records) ≡ list_any is_of_entry l.records
