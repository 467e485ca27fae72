use Rattle.sa_seat.proofs.Locks.{processor-in, place-in}
use Rattle.sa_seat.proofs.held.Held.renew.Goals as goal

pub context-requires-after_bounds : goal.context-requires-after_bounds
context-requires-after_bounds g c κs within =
    let keep = (g.met.U.UserLevel g.world.𝓛 g.world.𝓜 g.world.𝓡 ((λ s x. x), (λ x. x), (λ x. x), λ x. x)).keeps in
    let h = c.self.inside in
    processor-in g.U.UserLevel.calls g.U.UserLevel.stands keep g.K.Named.workload g.K.Named.table g.K.Named.budget h.core h.lines h.keeper c.self.invariant c.proc.result.0 c.proc.ensures.within

pub renew-requires : goal.renew-requires
renew-requires g c =
    let keep = (g.met.U.UserLevel g.world.𝓛 g.world.𝓜 g.world.𝓡 ((λ s x. x), (λ x. x), (λ x. x), λ x. x)).keeps in
    let h = c.self.inside in
    place-in g.U.UserLevel.calls g.U.UserLevel.stands keep g.K.Named.workload g.K.Named.table g.K.Named.budget h.core h.lines h.keeper c.self.invariant c.proc.result
    c.context.result c.context.ensures
