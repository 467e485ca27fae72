use Rattle.sa_prio_model.proofs.Able.{answered_ranks}
use Rattle.sa_prio.proofs.level.PrioThreadsUserLevel.answered.Goals as goal

pub answered-requires : goal.answered-requires
answered-requires c = answered_ranks c.args.self.now c.args.seen.now c.args.ctx.now c.requires
