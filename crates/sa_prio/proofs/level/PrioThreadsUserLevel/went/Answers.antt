use Rattle.std.proofs.Common.{sym, subst}
use Rattle.sa_package_model.specs.Conditions.{CanGo}
use Rattle.sa_prio_model.specs.Prio.{Prio}
use Rattle.sa_prio_model.proofs.Able.{went_base}
use Rattle.sa_prio.proofs.level.PrioThreadsUserLevel.went.Goals as goal

pub went-requires-clause-can : goal.went-requires-clause-can
went-requires-clause-can c =
    subst (λ (v : Prio). CanGo v.base c.args.ctx.now.base) (sym c.self.view_is)
    (went_base c.args.self.now c.args.seen.now c.args.ctx.now c.args.n c.requires.going)
