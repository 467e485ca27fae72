use Rattle.std.proofs.Common.{◌++◌, ap, ◌∙◌, arith}
use Rattle.sa_base.specs.Items.{items_from}
use Rattle.sa_machine.proofs.CountLemmas.{counted-most, counted-left, counted-work, counted-set, user-within, user-at, user-is, set-by}
use Rattle.sa_machine.proofs.users.Users.went.Goals as goal

pub index_mut-level-requires : goal.index_mut-level-requires
index_mut-level-requires g c =
    let within = user-within c.self.view_is c.from.ensures c.requires.within in
    omega (arith, within)

pub went-requires-clause-going : goal.went-requires-clause-going
went-requires-clause-going g c =
    c.requires.going c.index_mut-level.result.now
    (user-at c.self.view_is c.from.ensures c.requires.within c.index_mut-level.ensures.value)

pub after-self-inside-requires-clause-unfinished : goal.after-self-inside-requires-clause-unfinished
after-self-inside-requires-clause-unfinished g c =
    counted-left c.self.invariant (user-within c.self.view_is c.from.ensures c.requires.within) c.index_mut-level.ensures.value c.tally-was.ensures

pub after-self-inside-requires-clause-active : goal.after-self-inside-requires-clause-active
after-self-inside-requires-clause-active g c =
    counted-work c.self.invariant (user-within c.self.view_is c.from.ensures c.requires.within) c.index_mut-level.ensures.value c.tally-was.ensures

pub after-self-inside-requires-clause-few : goal.after-self-inside-requires-clause-few
after-self-inside-requires-clause-few g c = counted-most c.self.invariant

pub invariant_of-self : goal.invariant_of-self
invariant_of-self g c =
    counted-set c.self.invariant (user-within c.self.view_is c.from.ensures c.requires.within) c.index_mut-level.ensures.value c.tally-was.ensures
    c.tally-is.ensures c.after-self-inside.ensures.unfinished c.after-self-inside.ensures.active

pub returns-clause-user : goal.returns-clause-user
returns-clause-user g c = λ u at.
    set-by (λ (w : g.row.U.Denot). (g.U.UserLevel.calls.went w c.args.seen.now c.args.ctx.now c.args.n).user) c.self.view_is c.from.ensures
    (user-is c.self.view_is c.from.ensures c.requires.within c.index_mut-level.ensures.value at) c.went.ensures.user

pub returns-clause-ctx : goal.returns-clause-ctx
returns-clause-ctx g c = λ u at.
    c.went.ensures.ctx ∙ ap (λ (w : g.row.U.Denot). (g.U.UserLevel.calls.went w c.args.seen.now c.args.ctx.now c.args.n).ctx)
    (user-is c.self.view_is c.from.ensures c.requires.within c.index_mut-level.ensures.value at)

pub returns-clause-items : goal.returns-clause-items
returns-clause-items g c = λ u at.
    c.went.ensures.items
    ∙ ap (λ (w : g.row.U.Denot). c.args.trace.now.items ++ items_from c.args.seen.now.event c.args.seen.now.proc (g.U.UserLevel.calls.went w c.args.seen.now c.args.ctx.now c.args.n).says)
    (user-is c.self.view_is c.from.ensures c.requires.within c.index_mut-level.ensures.value at)
