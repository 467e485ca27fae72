use Rattle.std.proofs.Common.{◌≡◌, take, Ok}
use Rattle.toga_read.specs.Outcome.{each}
use Rattle.toga_read.specs.Operands.{instr_in}
use Rattle.toga_read.proofs.operands.instrs_of.Given as goal

abbrev pub invariant-loop-draft : goal.invariant-loop-draft
invariant-loop-draft l = each (instr_in l.space l.program) (take l.draft-index l.drafts) ≡ Ok l.instrs.items
