use Rattle.std.proofs.Common.{◌≡◌, drop, is_none}
use Rattle.std.specs.List.{list_all}
use Rattle.sa_check_moment.proofs.board.Board.all_low.Given as goal

-- all lines are low exactly where those are that were not looked at
abbrev pub invariant-loop-line : goal.invariant-loop-line
invariant-loop-line l = list_all is_none (drop l.line-index l.line-items) ≡ list_all is_none l.line-items
