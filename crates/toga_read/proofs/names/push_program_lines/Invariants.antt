use Rattle.std.proofs.Common.{◌≡◌, ◌++◌, take, map}
use Rattle.toga_draft.specs.declared.draft.InstrDraft.{InstrDraft}
use Rattle.toga_read.proofs.names.push_program_lines.Given as goal

abbrev pub invariant-loop-instr : goal.invariant-loop-instr
invariant-loop-instr l = l.lines.items ≡ l.initial.lines.items ++ map (λ (i : InstrDraft). i.line) (take l.instr-index l.instrs)
