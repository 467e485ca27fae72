use Rattle.std.proofs.Common.{◌≡◌, take}
use Rattle.sa_spaces.proofs.space.copy_programs.Given as goal

-- the programs before this one are copied
abbrev pub invariant-loop-program : goal.invariant-loop-program
invariant-loop-program l = l.copies.items ≡ take l.program-index l.programs
