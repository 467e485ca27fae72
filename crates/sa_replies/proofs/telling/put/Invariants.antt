use Rattle.std.proofs.Common.{◌≡◌, ◌+◌, ◌-◌, ◌++◌, length, None}
use Rattle.std.specs.Prelude.{replicate}
use Rattle.sa_replies.proofs.telling.put.Given as goal

-- what is there, with what is still to come
abbrev pub invariant-loop-held : goal.invariant-loop-held
invariant-loop-held l =
    l.held.items ++ replicate (l.at + 1 - length l.held.items) None
    ≡ l.initial.held.items ++ replicate (l.at + 1 - length l.initial.held.items) None

abbrev pub decreases-loop-held : goal.decreases-loop-held
decreases-loop-held l = l.at + 1 - length l.held.items
