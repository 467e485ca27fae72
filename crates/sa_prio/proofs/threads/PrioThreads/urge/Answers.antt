use Rattle.std.proofs.Common.{◌≡◌, false, Some, None, refl, sym, ap, ◌∙◌, subst, append-nil, arith, rules}
use Rattle.sa_abstract.specs.Keeps.{IsStep}
use Rattle.sa_abstract.specs.declared.answer.Step.TheVariants.{InterruptOwn}
use Rattle.sa_package_model.specs.declared.context.Context.{Context}
use Rattle.sa_prio_model.specs.Prio.{outranked, lowest}
use Rattle.sa_prio_model.specs.Conditions.{Steps}
use Rattle.sa_prio_model.specs.Step.{goes}
use Rattle.sa_prio_model.specs.Stands.{prio_stands}
use Rattle.sa_prio_model.proofs.Able.{step_ranks, step_proc, step_work, step_due, step_settled}
use Rattle.sa_prio.proofs.Urging.{urged-interrupts, urged-goes, settled-is}
use Rattle.sa_prio.proofs.threads.PrioThreads.urge.Goals as goal

pub outranked-requires-clause-can : goal.outranked-requires-clause-can
outranked-requires-clause-can c = step_ranks c.args.self.now c.args.seen.now c.args.ctx.now c.requires.turn

pub outranked-requires-clause-proc : goal.outranked-requires-clause-proc
outranked-requires-clause-proc c = step_proc c.args.self.now c.args.seen.now c.args.ctx.now c.requires.turn

pub give_way-requires-clause-work : goal.give_way-requires-clause-work
give_way-requires-clause-work c = step_work c.args.self.now c.args.seen.now c.args.ctx.now c.requires.turn c.requires.mark

pub give_way-requires-clause-thread : goal.give_way-requires-clause-thread
give_way-requires-clause-thread c = step_due c.args.self.now c.args.seen.now c.args.ctx.now c.requires.turn c.requires.mark

pub lowest-requires : goal.lowest-requires
lowest-requires c = step_ranks c.args.self.now c.args.seen.now c.args.ctx.now c.requires.turn

pub go-requires-clause-turn : goal.go-requires-clause-turn
go-requires-clause-turn c =
    let v = c.args.self.now in
    let seen = c.args.seen.now in
    let ctx = c.args.ctx.now in
    let is = settled-is (record { base = c.self.inside.base; on = c.self.inside.on.items }) v seen ctx.base c.settle.new.ctx c.thread-thread.result
    c.settle.ensures c.self.view_is c.thread-thread.ensures in
    subst (λ (x : Context). IsStep prio_stands v seen (record { base = x; urge = false })) (sym is)
    (step_settled v seen ctx c.requires.turn c.requires.mark)

pub returns-in-Some : goal.returns-in-Some
returns-in-Some c =
    let v = c.args.self.now in
    let seen = c.args.seen.now in
    let ctx = c.args.ctx.now in
    let own : outranked v seen seen.proc ≡ None = search rules in
    let line : lowest v seen ≡ Some c.in-Some.other = search rules in
    subst (λ s. Steps s seen c.args.trace.now v ctx (InterruptOwn c.in-Some.other.proc) c.args.trace.now)
    (sym (urged-interrupts v seen ctx.base c.in-Some.other own line)) (record {
      user = refl;
      ctx = ap (λ b. record { base = ctx.base; urge = b }) c.requires.mark;
      answers = refl;
      items = sym (append-nil c.args.trace.now.items);
      spare = omega arith;
    })

pub returns : goal.returns
returns c =
    let v = c.args.self.now in
    let seen = c.args.seen.now in
    let ctx = c.args.ctx.now in
    let own : outranked v seen seen.proc ≡ None = search rules in
    let line : lowest v seen ≡ None = search rules in
    let is = settled-is (record { base = c.self.inside.base; on = c.self.inside.on.items }) v seen ctx.base c.settle.new.ctx c.thread-thread.result
    c.settle.ensures c.self.view_is c.thread-thread.ensures in
    subst (λ s. Steps s seen c.args.trace.now c.go.new.self c.go.new.ctx c.go.result c.go.new.trace)
    (sym (urged-goes v seen ctx.base own line ∙ ap (goes v seen) (sym is))) c.go.ensures
