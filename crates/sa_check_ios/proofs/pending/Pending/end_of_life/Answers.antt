use Rattle.std.proofs.Common.{sym, subst}
use Rattle.sa_check_ios.specs.Kept.{AreFetching}
use Rattle.sa_check_ios.proofs.Fetching.{AreFetching-life}
use Rattle.sa_check_ios.proofs.pending.Pending.end_of_life.Goals as goal

pub invariant_of-self : goal.invariant_of-self
invariant_of-self c =
    subst (AreFetching c.self.inside.fetching.items) (sym c.end_life.ensures.rest)
    (AreFetching-life c.self.inside.fetching.items c.self.inside.ios c.args.a c.self.invariant)

pub invariant_of-self-in_default : goal.invariant_of-self-in_default
invariant_of-self-in_default c =
    subst (AreFetching c.self.inside.fetching.items) (sym c.end_life.ensures.rest)
    (AreFetching-life c.self.inside.fetching.items c.self.inside.ios c.args.a c.self.invariant)
