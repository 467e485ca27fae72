use Rattle.std.proofs.Common.{◌≡◌, None, ap, ◌∙◌}
use Rattle.sa_core_model.specs.End.{end_of}
use Rattle.sa_core.specs.View.{machine}
use Rattle.sa_seat.specs.Lock.{HeldView}
use Rattle.sa_seat.proofs.Locks.{standing, entry-follows, entry-counts, entry-locked}
use Rattle.sa_seat.proofs.held.Held.make_events.Goals as goal

pub move_core-requires-clause-workload : goal.move_core-requires-clause-workload
move_core-requires-clause-workload g c κs within =
    let keep = (g.met.U.UserLevel g.world.𝓛 g.world.𝓜 g.world.𝓡 ((λ s x. x), (λ x. x), (λ x. x), λ x. x)).keeps in
    let h = c.self.inside in
    (standing g.U.UserLevel.calls g.U.UserLevel.stands keep g.K.Named.workload g.K.Named.table g.K.Named.budget h.core h.lines h.keeper c.self.invariant).workload

pub follow-requires-clause-follow : goal.follow-requires-clause-follow
follow-requires-clause-follow g c κs within =
    let keep = (g.met.U.UserLevel g.world.𝓛 g.world.𝓜 g.world.𝓡 ((λ s x. x), (λ x. x), (λ x. x), λ x. x)).keeps in
    let h = c.self.inside in
    let none : end_of g.U.UserLevel.calls g.K.Named.budget (machine h.core) ≡ None =
    ap (λ (v : HeldView g.row.U.Denot g.row.U-Ctx.Denot). end_of g.U.UserLevel.calls g.K.Named.budget (machine v.core)) c.self.view_is
    ∙ c.requires.not_ended in
    entry-follows g.U.UserLevel.calls g.U.UserLevel.stands keep g.K.Named.workload g.K.Named.table g.K.Named.budget h.core c.move_core.new.core h.lines h.keeper c.args.seat.now c.in_ok-made.made c.self.invariant none c.move_core.ensures.within c.move_core.ensures.local c.in_ok-made.ensures.made

pub credit-requires-clause-what : goal.credit-requires-clause-what
credit-requires-clause-what g c = λ inside.
    let keep = (g.met.U.UserLevel g.world.𝓛 g.world.𝓜 g.world.𝓡 ((λ s x. x), (λ x. x), (λ x. x), λ x. x)).keeps in
    let h = c.self.inside in
    let none : end_of g.U.UserLevel.calls g.K.Named.budget (machine h.core) ≡ None =
    ap (λ (v : HeldView g.row.U.Denot g.row.U-Ctx.Denot). end_of g.U.UserLevel.calls g.K.Named.budget (machine v.core)) c.self.view_is
    ∙ c.requires.not_ended in
    entry-counts g.U.UserLevel.calls g.U.UserLevel.stands keep g.K.Named.workload g.K.Named.table g.K.Named.budget h.core c.move_core.new.core h.lines h.keeper c.args.seat.now c.in_ok-made.made c.self.invariant none c.move_core.ensures.within c.move_core.ensures.local c.in_ok-made.ensures.made c.follow.new.keeper c.follow.new.lines c.follow.ensures c.from.result c.from.ensures

pub invariant_of-self-2 : goal.invariant_of-self-2
invariant_of-self-2 g c =
    let keep = (g.met.U.UserLevel g.world.𝓛 g.world.𝓜 g.world.𝓡 ((λ s x. x), (λ x. x), (λ x. x), λ x. x)).keeps in
    let h = c.self.inside in
    let none : end_of g.U.UserLevel.calls g.K.Named.budget (machine h.core) ≡ None =
    ap (λ (v : HeldView g.row.U.Denot g.row.U-Ctx.Denot). end_of g.U.UserLevel.calls g.K.Named.budget (machine v.core)) c.self.view_is
    ∙ c.requires.not_ended in
    entry-locked g.U.UserLevel.calls g.U.UserLevel.stands keep g.K.Named.workload g.K.Named.table g.K.Named.budget h.core c.move_core.new.core h.lines h.keeper c.args.seat.now c.in_ok-made.made c.self.invariant none c.move_core.ensures.within c.move_core.ensures.local c.in_ok-made.ensures.made c.follow.new.keeper c.follow.new.lines c.follow.ensures c.in_ok-made.ensures.budget_same c.from.result c.from.ensures
    c.credit.new.keeper c.credit.ensures.keeper
