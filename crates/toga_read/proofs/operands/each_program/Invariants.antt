use Rattle.std.proofs.Common.{◌≡◌, take, Ok}
use Rattle.toga_read.specs.Outcome.{each}
use Rattle.toga_read.specs.Operands.{program_of}
use Rattle.toga_read.proofs.operands.each_program.Given as goal

abbrev pub invariant-loop-draft : goal.invariant-loop-draft
invariant-loop-draft l = each (program_of l.space) (take l.draft-index l.drafts) ≡ Ok l.programs.items
