use Rattle.std.proofs.Common.{◌≡◌, ◌++◌, replicate}
use Rattle.toga_draft.proofs.operands.push_turns.Given as goal

abbrev pub invariant-loop : goal.invariant-loop
invariant-loop l = l.turns.items ≡ l.initial.turns.items ++ replicate l.counter l.processor
