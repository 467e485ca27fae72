use Rattle.std.proofs.Common.{◌≡◌, ◌++◌, take, codes, decimal}
use Rattle.std.specs.List.{flat_map}
use Rattle.toga_source.specs.Show.{with_numbers, nth_program_text}
use Rattle.toga_source.proofs.space.push_programs.Given as goal

abbrev pub invariant-loop-number : goal.invariant-loop-number
invariant-loop-number l = l.out.items ≡ l.initial.out.items ++ with_numbers (nth_program_text l.names) (take l.number l.programs)
