use Rattle.std.proofs.Common.{◌≡◌, ◌++◌, take}
use Rattle.toga_source.specs.Show.{with_numbers}
use Rattle.toga_say.specs.Values.{entry_text}
use Rattle.toga_say.proofs.values.push_entries.Given as goal

abbrev pub invariant-loop-place : goal.invariant-loop-place
invariant-loop-place l = l.out.items ≡ l.initial.out.items ++ with_numbers entry_text (take l.place l.entries)
