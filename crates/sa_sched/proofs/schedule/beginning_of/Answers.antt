use Rattle.std.proofs.Common.{◌<◌, ap, sym, subst, ◌∙◌, arith}
use Rattle.sa_sched.specs.Kind.{order_of, AreAmong}
use Rattle.sa_sched.specs.Turns.{whole, Words}
use Rattle.sa_sched.proofs.Lists.{All-from_map}
use Rattle.sa_sched.proofs.Seeding.{seeded}
use Rattle.sa_sched.proofs.schedule.beginning_of.Goals as goal

pub returns-in-Seed-clause-rest : goal.returns-in-Seed-clause-rest
returns-in-Seed-clause-rest c =
    ap (λ g. Words g.increment g.state) c.seed_from_u64.ensures ∙ seeded c.in-Seed.seed ∙ sym (ap (λ k. whole (order_of k)) c.in-Seed.is)

pub returns-in-Given-clause-order : goal.returns-in-Given-clause-order
returns-in-Given-clause-order c = (
  omega arith,
  All-from_map (λ p. p < c.args.processors) (λ p. p.0) c.in-Given.procs.items
      (subst (λ k. AreAmong c.args.processors (order_of k)) c.in-Given.is c.requires),
)
