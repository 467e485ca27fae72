use Rattle.std.proofs.Common.{◌∙◌, ap, subst, sym}
use Rattle.toga_read.specs.Operands.{instr_in}
use Rattle.sa_lemmas.proofs.Results.{err_along}
use Rattle.toga_draft.specs.Reading.{Fails}
use Rattle.toga_read.specs.Outcome.{each}
use Rattle.toga_read.proofs.Each.{each-all, each-failing, each-more}
use Rattle.toga_read.proofs.operands.instrs_of.Goals as goal

pub loop-draft-preserved : goal.loop-draft-preserved
loop-draft-preserved c =
    each-more (instr_in c.args.space.now c.args.program.now) c.args.drafts.now c.loop-draft.draft-index c.draft-item.result c.loop-draft.instrs.items c.push.new.self.items c.in_ok-instr_in.field-0
    c.loop-draft-test.true c.loop-draft.invariant (ap (instr_in c.args.space.now c.args.program.now) (sym c.draft-item.is) ∙ c.in_ok-instr_in.ensures.ok) c.in_ok-push.ensures.items

pub returns-clause-ok : goal.returns-clause-ok
returns-clause-ok c = each-all (instr_in c.args.space.now c.args.program.now) c.args.drafts.now c.loop-draft.draft-index c.loop-draft.instrs.items c.loop-draft-test.false c.loop-draft.invariant

pub returns-in_err-instr_in-clause-err : goal.returns-in_err-instr_in-clause-err
returns-in_err-instr_in-clause-err c =
    err_along (λ e. Fails e (each (instr_in c.args.space.now c.args.program.now) c.args.drafts.now)) c.in_err-instr_in.field-0.0 c.from_residual.result
    (each-failing (instr_in c.args.space.now c.args.program.now) c.args.drafts.now c.loop-draft.draft-index c.draft-item.result c.loop-draft.instrs.items c.in_err-instr_in.field-0.0
    c.loop-draft-test.true c.loop-draft.invariant (subst (λ x. Fails c.in_err-instr_in.field-0.0 ((instr_in c.args.space.now c.args.program.now) x)) c.draft-item.is c.in_err-instr_in.ensures.err))
    c.from_residual.ensures.1
