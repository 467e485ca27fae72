use Rattle.std.proofs.Common.{◌≡◌, ◌++◌, take}
use Rattle.toga_source.specs.Show.{with_numbers}
use Rattle.toga_say.specs.Thread.{value_text}
use Rattle.toga_say.proofs.thread.push_values.Given as goal

abbrev pub invariant-loop-number : goal.invariant-loop-number
invariant-loop-number l = l.out.items ≡ l.initial.out.items ++ with_numbers value_text (take l.number l.values)
