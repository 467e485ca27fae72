use Rattle.std.proofs.Common.{◌≡◌, drop}
use Rattle.std.specs.List.{list_any}
use Rattle.sa_laws.specs.Any.{names_thread}
use Rattle.sa_check_moment.specs.Seen.{seen}
use Rattle.sa_check_moment.proofs.moment.Moment.is_heard.Given as goal

-- some notice names the thread exactly where one does that was not looked at
abbrev pub invariant-loop-note : goal.invariant-loop-note
invariant-loop-note l =
    list_any (names_thread (seen l.self).readings l.t) (drop l.note-index l.note-items) ≡ list_any (names_thread (seen l.self).readings l.t) l.note-items
