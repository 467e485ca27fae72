use Rattle.std.proofs.Common.{◌∙◌, ap}
use Rattle.toga_draft.specs.Draft.{ProgramDraftView}
use Rattle.toga_read.proofs.Loops.{mapped-more, mapped-all}
use Rattle.toga_read.proofs.lookup.own_names.Goals as goal

pub loop-program-preserved : goal.loop-program-preserved
loop-program-preserved c =
    mapped-more (λ (p : ProgramDraftView). p.name.text) c.args.programs.now c.loop-program.program-index c.program-item.result c.loop-program.names.items c.push.new.self.items c.in_ok-copied.field-0
    c.loop-program-test.true c.loop-program.invariant (c.in_ok-copied.ensures ∙ ap (λ (p : ProgramDraftView). p.name.text) (c.program.view_is ∙ c.program-item.is)) c.in_ok-push.ensures.items

pub returns : goal.returns
returns c = mapped-all (λ (p : ProgramDraftView). p.name.text) c.args.programs.now c.loop-program.program-index c.loop-program.names.items c.loop-program-test.false c.loop-program.invariant
