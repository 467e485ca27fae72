use Rattle.std.proofs.Common.{◌≡◌, take, map}
use Rattle.std.specs.List.{enumerate_from, range_with_len, flat_map}
use Rattle.toga_source.specs.Plain.{plain_program}
use Rattle.toga_source.proofs.plain.plain_programs.Given as goal

abbrev pub invariant-loop-number : goal.invariant-loop-number
invariant-loop-number l = l.names.items ≡ map (λ p. plain_program p.0 p.1) (enumerate_from 0 (take l.number l.programs))
