use Rattle.std.proofs.Common.{◌≡◌, take, map}
use Rattle.std.specs.List.{enumerate_from, range_with_len, flat_map}
use Rattle.toga_source.specs.Plain.{plain_space}
use Rattle.toga_source.proofs.plain.plain_spaces.Given as goal

abbrev pub invariant-loop-number : goal.invariant-loop-number
invariant-loop-number l = l.names.items ≡ map (λ s. plain_space s.0 s.1) (enumerate_from 0 (take l.number l.spaces))
