use Rattle.std.proofs.Common.{None, replicate, sym, subst}
use Rattle.sa_core.specs.View.{machine}
use Rattle.sa_lines.specs.Seen.{KeeperSeen}
use Rattle.sa_seat.specs.Follow.{MayFollow, HasFollowed}
use Rattle.sa_seat.proofs.Locks.{follows-opening, locked-opening}
use Rattle.sa_seat.proofs.held.Held.new.Goals as goal

pub follow-requires-clause-follow : goal.follow-requires-clause-follow
follow-requires-clause-follow g c κs within =
    let keep = (g.met.U.UserLevel g.world.𝓛 g.world.𝓜 g.world.𝓡 ((λ s x. x), (λ x. x), (λ x. x), λ x. x)).keeps in
    let f = g.U.UserLevel.calls in
    subst (λ (k : KeeperSeen). MayFollow (machine c.args.core) (replicate 16 None) k) (sym c.requires.keeper)
    (follows-opening f g.U.UserLevel.stands keep g.K.Named.workload g.K.Named.table g.K.Named.budget 16
    (machine c.args.core) c.requires.workload c.requires.core c.requires.few)

pub invariant_of-result : goal.invariant_of-result
invariant_of-result g c =
    let keep = (g.met.U.UserLevel g.world.𝓛 g.world.𝓜 g.world.𝓡 ((λ s x. x), (λ x. x), (λ x. x), λ x. x)).keeps in
    let f = g.U.UserLevel.calls in
    locked-opening f g.U.UserLevel.stands keep g.K.Named.workload g.K.Named.table g.K.Named.budget c.args.core c.follow.new.keeper c.follow.new.lines
    c.requires.workload c.requires.core c.requires.budget c.requires.few
    (subst (λ (k : KeeperSeen). HasFollowed (machine c.args.core).kernel (machine c.args.core).workload.processors k c.follow.new.keeper c.follow.new.lines)
    c.requires.keeper c.follow.ensures)
