use Rattle.std.proofs.Common.{◌∙◌, ap, subst, sym}
use Rattle.toga_read.specs.Spaces.{space_of}
use Rattle.sa_lemmas.proofs.Results.{err_along}
use Rattle.toga_draft.specs.Reading.{Fails}
use Rattle.toga_read.specs.Outcome.{each}
use Rattle.toga_read.proofs.Each.{each-all, each-failing, each-more}
use Rattle.toga_read.proofs.spaces.spaces_of.Goals as goal

pub loop-draft-preserved : goal.loop-draft-preserved
loop-draft-preserved c =
    each-more space_of c.args.drafts.now c.loop-draft.draft-index c.draft-item.result c.loop-draft.spaces.items c.push.new.self.items c.in_ok-space_of.field-0
    c.loop-draft-test.true c.loop-draft.invariant (ap space_of (sym c.draft-item.is) ∙ c.in_ok-space_of.ensures.ok) c.in_ok-push.ensures.items

pub returns-clause-ok : goal.returns-clause-ok
returns-clause-ok c = each-all space_of c.args.drafts.now c.loop-draft.draft-index c.loop-draft.spaces.items c.loop-draft-test.false c.loop-draft.invariant

pub returns-in_err-space_of-clause-err : goal.returns-in_err-space_of-clause-err
returns-in_err-space_of-clause-err c =
    err_along (λ e. Fails e (each space_of c.args.drafts.now)) c.in_err-space_of.field-0.0 c.from_residual.result
    (each-failing space_of c.args.drafts.now c.loop-draft.draft-index c.draft-item.result c.loop-draft.spaces.items c.in_err-space_of.field-0.0
    c.loop-draft-test.true c.loop-draft.invariant (subst (λ x. Fails c.in_err-space_of.field-0.0 (space_of x)) c.draft-item.is c.in_err-space_of.ensures.err))
    c.from_residual.ensures.1
