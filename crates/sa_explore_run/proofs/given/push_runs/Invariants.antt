use Rattle.std.proofs.Common.{◌≡◌, ◌++◌, ◌+◌, ◌≤◌, drop}
use Rattle.std.specs.List.{flat_map}
use Rattle.sa_explore_run.specs.Text.{given_line, turns_from}
use Rattle.sa_explore_run.proofs.given.push_runs.Given as goal

-- what is written, and the row so far with the turns after it, make up the text
abbrev pub invariant-loop-next : goal.invariant-loop-next
invariant-loop-next l = record {
  few : l.turns ≤ l.next-index + 1;
  text : l.out.items ++ flat_map given_line (turns_from l.proc l.turns (drop l.next-index l.rest))
      ≡ l.initial.out.items ++ flat_map given_line (turns_from l.fn.first 1 l.rest);
}
