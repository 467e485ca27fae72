use Rattle.std.proofs.Common.{◌≡◌, take}
use Rattle.toga_verdict.specs.Source.{lines_behind}
use Rattle.toga_verdict.proofs.source.lines_behind.Given as goal

abbrev pub invariant-loop-program : goal.invariant-loop-program
invariant-loop-program l = l.rest ≡ lines_behind l.lines (take l.program-index l.programs)
