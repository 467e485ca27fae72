use Rattle.std.proofs.Common.{◌≡◌, ◌++◌, length}
use Rattle.std.specs.List.{flat_map}
use Rattle.sa_laws.specs.Event.{events_of}
use Rattle.toga_kinds.specs.Kinds.{turn_if}
use Rattle.toga_kinds.proofs.history.turns.Given as goal

-- the turns so far, and those of what is left, are all
abbrev pub invariant-loop-first : goal.invariant-loop-first
invariant-loop-first l = l.turns.items ++ flat_map turn_if (events_of l.rest) ≡ flat_map turn_if (events_of l.fn.items)

abbrev pub decreases-loop-first : goal.decreases-loop-first
decreases-loop-first l = length l.rest
