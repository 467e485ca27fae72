use Rattle.std.proofs.Common.{List, ◌++◌, map, ◌∙◌, ap}
use Rattle.toga_draft.specs.declared.draft.InstrDraft.{InstrDraft}
use Rattle.toga_draft.specs.Draft.{ProgramDraftView}
use Rattle.toga_read.specs.Names.{program_lines}
use Rattle.sa_lemmas.proofs.Appends.{list-more, list-all}
use Rattle.toga_read.proofs.names.push_space_lines.Goals as goal

pub loop-program-preserved : goal.loop-program-preserved
loop-program-preserved c =
    list-more program_lines c.args.programs.now c.loop-program.program-index c.program-item.result c.args.lines.now.items c.loop-program.lines.items
    c.push_program_lines.new.lines.items c.loop-program-test.true c.loop-program.invariant
    (c.in_ok-push_program_lines.ensures
    ∙ ap (λ (instrs : List InstrDraft). c.loop-program.lines.items ++ map (λ (i : InstrDraft). i.line) instrs)
    (c.deref.ensures.value ∙ ap (λ (p : ProgramDraftView). p.instrs) (c.program.view_is ∙ c.program-item.is)))

pub returns : goal.returns
returns c =
    list-all program_lines c.args.programs.now c.loop-program.program-index c.args.lines.now.items c.loop-program.lines.items c.loop-program-test.false
    c.loop-program.invariant
