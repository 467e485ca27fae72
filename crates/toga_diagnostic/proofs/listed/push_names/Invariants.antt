use Rattle.std.proofs.Common.{◌≡◌, ◌++◌, take}
use Rattle.toga_source.specs.Show.{with_numbers}
use Rattle.toga_diagnostic.specs.Listed.{listed_name}
use Rattle.toga_diagnostic.proofs.listed.push_names.Given as goal

abbrev pub invariant-loop-number : goal.invariant-loop-number
invariant-loop-number l = l.out.items ≡ l.initial.out.items ++ with_numbers listed_name (take l.number l.names)
