use Rattle.std.proofs.Common.{◌≡◌, take}
use Rattle.toga_source.specs.Runs.{runs_of}
use Rattle.toga_source.proofs.turns.runs_of.Given as goal

abbrev pub invariant-loop-number : goal.invariant-loop-number
invariant-loop-number l = l.runs.items ≡ runs_of (take l.number l.turns)
