use Rattle.std.proofs.Common.{◌≡◌, ◌++◌, drop}
use Rattle.toga_verdict.specs.Verdict.{near_lines}
use Rattle.toga_verdict.proofs.lines.push_from.Given as goal

-- what was written, and what the rest of the items says, is the whole
abbrev pub invariant-loop-item : goal.invariant-loop-item
invariant-loop-item l =
    l.out.items ++ near_lines l.source l.programs l.event (drop l.item-index l.items)
    ≡ l.initial.out.items ++ near_lines l.source l.initial.programs l.event l.items
