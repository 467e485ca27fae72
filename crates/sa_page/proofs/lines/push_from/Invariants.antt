use Rattle.std.proofs.Common.{◌≡◌, ◌++◌, drop}
use Rattle.sa_check_lives.specs.View.{lives_of}
use Rattle.sa_page.specs.Page.{items_text}
use Rattle.sa_page.proofs.lines.push_from.Given as goal

-- what was written, and what the rest of the items says, is the whole
abbrev pub invariant-loop-item : goal.invariant-loop-item
invariant-loop-item l =
    l.out.items ++ items_text l.workload (lives_of l.lives) l.programs (drop l.item-index l.items)
    ≡ l.initial.out.items ++ items_text l.workload (lives_of l.initial.lives) l.initial.programs l.items
