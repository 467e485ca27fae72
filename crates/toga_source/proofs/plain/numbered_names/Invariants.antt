use Rattle.std.proofs.Common.{◌≡◌, take, map}
use Rattle.std.specs.List.{enumerate_from, range_with_len, flat_map}
use Rattle.toga_source.specs.Plain.{numbered_names}
use Rattle.toga_source.proofs.plain.numbered_names.Given as goal

abbrev pub invariant-loop-number : goal.invariant-loop-number
invariant-loop-number l = l.names.items ≡ numbered_names l.word l.number
