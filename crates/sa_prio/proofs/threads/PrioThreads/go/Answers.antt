use Rattle.std.proofs.Common.{sym, ◌∙◌, subst}
use Rattle.sa_package_model.specs.Conditions.{CanStep}
use Rattle.sa_prio_model.specs.Prio.{Prio}
use Rattle.sa_prio_model.specs.Conditions.{CanRank}
use Rattle.sa_prio_model.specs.Step.{goes}
use Rattle.sa_prio_model.proofs.Able.{step_base, step_gone}
use Rattle.sa_prio.proofs.Going.{gone_is}
use Rattle.sa_prio.proofs.threads.PrioThreads.go.Goals as goal

pub step-answer-requires-clause-can : goal.step-answer-requires-clause-can
step-answer-requires-clause-can c =
    subst (λ (v : Prio). CanStep v.base c.args.seen.now c.args.ctx.now.base) (sym c.self.view_is)
    (step_base c.args.self.now c.args.seen.now c.args.ctx.now c.requires.turn)

pub has_pair-ctx-requires : goal.has_pair-ctx-requires
has_pair-ctx-requires c =
    let v : Prio = record { base = c.self.inside.base; on = c.self.inside.on.items } in
    let there = subst (λ (x : Prio). CanRank (goes x c.args.seen.now c.args.ctx.now.base).user) (sym c.self.view_is)
    (step_gone c.args.self.now c.args.seen.now c.args.ctx.now c.requires.turn) in
    let r = c.step-answer in
    subst CanRank (sym (c.set_on.ensures
    ∙ gone_is v c.args.seen.now c.args.ctx.now.base r.new.self r.new.ctx r.result c.left_on.result r.ensures.user r.ensures.ctx r.ensures.answers
    c.left_on.ensures))
    there
