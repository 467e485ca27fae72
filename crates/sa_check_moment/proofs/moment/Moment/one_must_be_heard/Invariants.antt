use Rattle.std.proofs.Common.{◌≡◌, drop}
use Rattle.std.specs.List.{list_any}
use Rattle.sa_laws.specs.Readings.{must_hear}
use Rattle.sa_check_moment.specs.Seen.{seen}
use Rattle.sa_check_moment.proofs.moment.Moment.one_must_be_heard.Given as goal

-- one must be heard exactly where one of those must that were not looked at
abbrev pub invariant-loop-note : goal.invariant-loop-note
invariant-loop-note l =
    list_any (must_hear (seen l.self).readings) (drop l.note-index l.notes) ≡ list_any (must_hear (seen l.self).readings) l.notes
