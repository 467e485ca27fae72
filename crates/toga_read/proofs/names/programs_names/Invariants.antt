use Rattle.std.proofs.Common.{◌≡◌, take, map}
use Rattle.toga_read.specs.Names.{program_names}
use Rattle.toga_read.proofs.names.programs_names.Given as goal

abbrev pub invariant-loop-program : goal.invariant-loop-program
invariant-loop-program l = l.names.items ≡ map program_names (take l.program-index l.programs)
