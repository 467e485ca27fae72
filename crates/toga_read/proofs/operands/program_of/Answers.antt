use Rattle.std.proofs.Common.{◌≡◌, Ok, sym, ap, ◌∙◌}
use Rattle.toga_draft.specs.Draft.{ProgramDraftView}
use Rattle.toga_read.specs.Operands.{instr_in, program_of}
use Rattle.toga_read.specs.Outcome.{each}
use Rattle.toga_read.proofs.Programs.{program-made}
use Rattle.toga_read.proofs.Somes.{some-if}
use Rattle.toga_read.proofs.operands.program_of.Goals as goal

pub unwrap-requires : goal.unwrap-requires
unfolding program_of
unwrap-requires c =
    let made : program_of c.args.space.now c.args.program.now ≡ Ok c.in_ok-instrs.instrs.items =
    ap (each (instr_in c.args.space.now c.args.program.now))
    (sym (c.deref.ensures.value ∙ ap (λ (p : ProgramDraftView). p.instrs) c.program.view_is)) ∙ c.in_ok-instrs.ensures.ok in
    some-if c.new.result _ _ c.new.ensures
    (program-made c.args.space.now c.args.program.now c.in_ok-instrs.instrs.items c.requires.space c.requires.program made).program
