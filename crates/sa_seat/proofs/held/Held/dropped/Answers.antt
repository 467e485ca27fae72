use Rattle.std.proofs.Common.{◌<◌, refl, arith, rules}
use Rattle.sa_seat.proofs.Locks.{processor-in}
use Rattle.sa_seat.proofs.held.Held.dropped.Goals as goal

pub line-requires-after_bounds : goal.line-requires-after_bounds
line-requires-after_bounds g c κs within =
    let keep = (g.met.U.UserLevel g.world.𝓛 g.world.𝓜 g.world.𝓡 ((λ s x. x), (λ x. x), (λ x. x), λ x. x)).keeps in
    let h = c.self.inside in
    processor-in g.U.UserLevel.calls g.U.UserLevel.stands keep g.K.Named.workload g.K.Named.table g.K.Named.budget h.core h.lines h.keeper c.self.invariant c.proc.result.0 c.proc.ensures.within

pub context-context-requires-after_bounds : goal.context-context-requires-after_bounds
context-context-requires-after_bounds g c κs within =
    let keep = (g.met.U.UserLevel g.world.𝓛 g.world.𝓜 g.world.𝓡 ((λ s x. x), (λ x. x), (λ x. x), λ x. x)).keeps in
    let h = c.self.inside in
    processor-in g.U.UserLevel.calls g.U.UserLevel.stands keep g.K.Named.workload g.K.Named.table g.K.Named.budget h.core h.lines h.keeper c.self.invariant c.proc-2.result.0 c.proc-2.ensures.within

pub returns-then-ne-clause-cause : goal.returns-then-ne-clause-cause
returns-then-ne-clause-cause g c =
    let some : 0 < c.args.seat.now.pending = (let a = c.if-pending-eq0.false in let d = c.pending.ensures.pending in omega (arith, a, d)) in
    (record { not_ended = c.requires.not_ended; pending = some; same = refl }, search rules, search rules, c.start-start.ensures, search rules)

pub returns-clause-low : goal.returns-clause-low
returns-clause-low g c = λ some. search rules

pub returns-clause-start : goal.returns-clause-start
returns-clause-start g c = λ some. search rules
