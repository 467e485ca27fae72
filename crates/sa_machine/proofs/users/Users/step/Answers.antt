use Rattle.std.proofs.Common.{◌+◌, ◌++◌, length, sym, ap, ◌∙◌, arith}
use Rattle.sa_base.specs.Items.{items_at}
use Rattle.sa_machine.proofs.CountLemmas.{counted-most, counted-left, counted-work, counted-set, user-within, user-at, user-is, set-by}
use Rattle.sa_machine.proofs.users.Users.step.Goals as goal

pub index_mut-level-requires : goal.index_mut-level-requires
index_mut-level-requires g c =
    let within = user-within c.self.view_is c.from.ensures c.requires.within in
    omega (arith, within)

pub step-asked-requires-clause-turn : goal.step-asked-requires-clause-turn
step-asked-requires-clause-turn g c =
    c.requires.turn c.index_mut-level.result.now
    (user-at c.self.view_is c.from.ensures c.requires.within c.index_mut-level.ensures.value)

pub after-self-inside-requires-clause-unfinished : goal.after-self-inside-requires-clause-unfinished
after-self-inside-requires-clause-unfinished g c =
    counted-left c.self.invariant (user-within c.self.view_is c.from.ensures c.requires.within) c.index_mut-level.ensures.value c.tally-was.ensures

pub after-self-inside-requires-clause-active : goal.after-self-inside-requires-clause-active
after-self-inside-requires-clause-active g c =
    counted-work c.self.invariant (user-within c.self.view_is c.from.ensures c.requires.within) c.index_mut-level.ensures.value c.tally-was.ensures

pub after-self-inside-requires-clause-few : goal.after-self-inside-requires-clause-few
after-self-inside-requires-clause-few g c = counted-most c.self.invariant

pub invariant_of-self : goal.invariant_of-self
invariant_of-self g c =
    counted-set c.self.invariant (user-within c.self.view_is c.from.ensures c.requires.within) c.index_mut-level.ensures.value c.tally-was.ensures
    c.tally-is.ensures c.after-self-inside.ensures.unfinished c.after-self-inside.ensures.active

pub returns-clause-user : goal.returns-clause-user
returns-clause-user g c = λ u at.
    set-by (λ (w : g.row.U.Denot). (g.U.UserLevel.calls.stepped w c.args.seen.now c.args.ctx.now).user) c.self.view_is c.from.ensures
    (user-is c.self.view_is c.from.ensures c.requires.within c.index_mut-level.ensures.value at) c.step-asked.ensures.user

pub returns-clause-ctx : goal.returns-clause-ctx
returns-clause-ctx g c = λ u at.
    c.step-asked.ensures.ctx ∙ ap (λ (w : g.row.U.Denot). (g.U.UserLevel.calls.stepped w c.args.seen.now c.args.ctx.now).ctx)
    (user-is c.self.view_is c.from.ensures c.requires.within c.index_mut-level.ensures.value at)

pub returns-clause-answer : goal.returns-clause-answer
returns-clause-answer g c = λ u at.
    c.step-asked.ensures.answer ∙ ap (λ (w : g.row.U.Denot). (g.U.UserLevel.calls.stepped w c.args.seen.now c.args.ctx.now).answer)
    (user-is c.self.view_is c.from.ensures c.requires.within c.index_mut-level.ensures.value at)

pub returns-clause-items : goal.returns-clause-items
returns-clause-items g c = λ u at.
    c.step-asked.ensures.items
    ∙ ap (λ (w : g.row.U.Denot). c.args.trace.now.items ++ items_at c.args.seen.now.event c.args.seen.now.proc (g.U.UserLevel.calls.stepped w c.args.seen.now c.args.ctx.now).says)
    (user-is c.self.view_is c.from.ensures c.requires.within c.index_mut-level.ensures.value at)

pub returns-clause-spare : goal.returns-clause-spare
returns-clause-spare g c = λ u at.
    ap (λ (w : g.row.U.Denot). c.step-asked.new.trace.spare + length (g.U.UserLevel.calls.stepped w c.args.seen.now c.args.ctx.now).says)
    (sym (user-is c.self.view_is c.from.ensures c.requires.within c.index_mut-level.ensures.value at))
    ∙ c.step-asked.ensures.spare
