use Rattle.std.proofs.Common.{◌≡◌, ◌++◌, take}
use Rattle.std.specs.List.{flat_map}
use Rattle.toga_read.specs.Names.{program_lines}
use Rattle.toga_read.proofs.names.push_space_lines.Given as goal

abbrev pub invariant-loop-program : goal.invariant-loop-program
invariant-loop-program l = l.lines.items ≡ l.initial.lines.items ++ flat_map program_lines (take l.program-index l.programs)
