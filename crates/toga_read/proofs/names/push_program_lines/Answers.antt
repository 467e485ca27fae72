use Rattle.std.proofs.Common.{ap}
use Rattle.toga_draft.specs.declared.draft.InstrDraft.{InstrDraft}
use Rattle.toga_read.proofs.Loops.{pushed-more, pushed-all}
use Rattle.toga_read.proofs.names.push_program_lines.Goals as goal

pub loop-instr-preserved : goal.loop-instr-preserved
loop-instr-preserved c =
    pushed-more (λ (i : InstrDraft). i.line) c.args.instrs.now c.loop-instr.instr-index c.instr-item.result c.args.lines.now.items c.loop-instr.lines.items
    c.push.new.self.items c.instr-item.result.line c.loop-instr-test.true c.loop-instr.invariant (ap (λ (i : InstrDraft). i.line) c.instr-item.is)
    c.in_ok-push.ensures.items

pub returns : goal.returns
returns c =
    pushed-all (λ (i : InstrDraft). i.line) c.args.instrs.now c.loop-instr.instr-index c.args.lines.now.items c.loop-instr.lines.items c.loop-instr-test.false
    c.loop-instr.invariant
