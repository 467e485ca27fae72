use Rattle.std.proofs.Common.{◌≡◌, Some, ap, ◌∙◌}
use Rattle.sa_core_model.specs.End.{end_of}
use Rattle.sa_core.specs.View.{machine}
use Rattle.sa_seat.specs.Lock.{HeldView}
use Rattle.sa_seat.proofs.Locks.{may-end, locked-ended}
use Rattle.sa_seat.proofs.held.Held.tell_end.Goals as goal

pub credit-requires-clause-what : goal.credit-requires-clause-what
credit-requires-clause-what g c =
    λ lt. let keep = (g.met.U.UserLevel g.world.𝓛 g.world.𝓜 g.world.𝓡 ((λ s x. x), (λ x. x), (λ x. x), λ x. x)).keeps in
    let f = g.U.UserLevel.calls in
    let h = c.self.inside in
    let ends : end_of f g.K.Named.budget (machine h.core) ≡ Some c.args.end =
    ap (λ (v : HeldView g.row.U.Denot g.row.U-Ctx.Denot). end_of f g.K.Named.budget (machine v.core)) c.self.view_is ∙ c.requires.end in
    may-end f g.U.UserLevel.stands keep g.K.Named.workload g.K.Named.table g.K.Named.budget h.core h.lines h.keeper c.self.invariant c.args.end ends
    c.args.seat.now.poller.proc lt

pub invariant_of-self : goal.invariant_of-self
invariant_of-self g c =
    let keep = (g.met.U.UserLevel g.world.𝓛 g.world.𝓜 g.world.𝓡 ((λ s x. x), (λ x. x), (λ x. x), λ x. x)).keeps in
    let f = g.U.UserLevel.calls in
    let h = c.self.inside in
    let ends : end_of f g.K.Named.budget (machine h.core) ≡ Some c.args.end =
    ap (λ (v : HeldView g.row.U.Denot g.row.U-Ctx.Denot). end_of f g.K.Named.budget (machine v.core)) c.self.view_is ∙ c.requires.end in
    locked-ended f g.U.UserLevel.stands keep g.K.Named.workload g.K.Named.table g.K.Named.budget h.core h.lines h.keeper c.self.invariant c.args.end ends
    c.args.seat.now.poller.proc c.credit.ensures.within c.credit.new.keeper c.credit.ensures.keeper
