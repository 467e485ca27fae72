use Rattle.std.proofs.Common.{◌≡◌, ◌≤◌, take}
use Rattle.toga_diagnostic.specs.Shown.{length_said}
use Rattle.toga_diagnostic.proofs.shown.length_said.Given as goal

abbrev pub invariant-loop-number : goal.invariant-loop-number
invariant-loop-number l = record { said : l.said ≡ length_said (take l.number l.line); within : l.said ≤ l.number }
