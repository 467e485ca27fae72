use Rattle.std.proofs.Common.{◌≡◌, ◌-◌, find}
use Rattle.std.specs.List.{range_with_len}
use Rattle.sa_lists.specs.ReadyView.{is_open}
use Rattle.sa_lists.proofs.ready.ReadyLists.first_open.Given as goal

-- what was passed had no open list
abbrev pub invariant-loop-list : goal.invariant-loop-list
invariant-loop-list l = find (is_open l.self) (range_with_len l.from (l.end - l.from)) ≡ find (is_open l.self) (range_with_len l.list (l.end - l.list))
