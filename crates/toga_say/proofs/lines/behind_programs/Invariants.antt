use Rattle.std.proofs.Common.{◌≡◌, take}
use Rattle.toga_say.specs.Lines.{behind_programs}
use Rattle.toga_say.proofs.lines.behind_programs.Given as goal

abbrev pub invariant-loop-program : goal.invariant-loop-program
invariant-loop-program l = l.rest ≡ behind_programs l.lines (take l.program-index l.programs)
