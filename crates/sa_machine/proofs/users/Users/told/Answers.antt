use Rattle.std.proofs.Common.{ap, ◌∙◌, arith}
use Rattle.sa_machine.proofs.CountLemmas.{counted-most, counted-left, counted-work, counted-set, user-within, user-at, user-is, set-by}
use Rattle.sa_machine.proofs.users.Users.told.Goals as goal

pub index_mut-level-requires : goal.index_mut-level-requires
index_mut-level-requires g c =
    let within = user-within c.self.view_is c.from.ensures c.requires.within in
    omega (arith, within)

pub told-requires : goal.told-requires
told-requires g c =
    c.requires.telling c.index_mut-level.result.now
    (user-at c.self.view_is c.from.ensures c.requires.within c.index_mut-level.ensures.value)

pub after-self-inside-requires-clause-unfinished : goal.after-self-inside-requires-clause-unfinished
after-self-inside-requires-clause-unfinished g c =
    counted-left c.self.invariant (user-within c.self.view_is c.from.ensures c.requires.within) c.index_mut-level.ensures.value c.tally-was.ensures

pub after-self-inside-requires-clause-active : goal.after-self-inside-requires-clause-active
after-self-inside-requires-clause-active g c =
    counted-work c.self.invariant (user-within c.self.view_is c.from.ensures c.requires.within) c.index_mut-level.ensures.value c.tally-was.ensures

pub after-self-inside-requires-clause-few : goal.after-self-inside-requires-clause-few
after-self-inside-requires-clause-few g c = counted-most c.self.invariant

pub invariant_of-self : goal.invariant_of-self
invariant_of-self g c =
    counted-set c.self.invariant (user-within c.self.view_is c.from.ensures c.requires.within) c.index_mut-level.ensures.value c.tally-was.ensures
    c.tally-is.ensures c.after-self-inside.ensures.unfinished c.after-self-inside.ensures.active

pub returns-clause-user : goal.returns-clause-user
returns-clause-user g c = λ u at.
    set-by (λ (w : g.row.U.Denot). (g.U.UserLevel.calls.told w c.args.ctx.now c.args.note c.args.held).0) c.self.view_is c.from.ensures
    (user-is c.self.view_is c.from.ensures c.requires.within c.index_mut-level.ensures.value at) (ap (λ (z : g.row.U.Denot × g.row.U-Ctx.Denot). z.0) c.told.ensures)

pub returns-clause-ctx : goal.returns-clause-ctx
returns-clause-ctx g c = λ u at.
    ap (λ (z : g.row.U.Denot × g.row.U-Ctx.Denot). z.1) c.told.ensures
    ∙ ap (λ (w : g.row.U.Denot). (g.U.UserLevel.calls.told w c.args.ctx.now c.args.note c.args.held).1)
    (user-is c.self.view_is c.from.ensures c.requires.within c.index_mut-level.ensures.value at)
