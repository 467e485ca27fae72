use Rattle.sa_prio_model.proofs.Able.{told_base}
use Rattle.sa_prio.proofs.level.PrioThreadsUserLevel.told.Goals as goal

pub told-requires : goal.told-requires
told-requires c = told_base c.args.self.now c.args.ctx.now c.args.note c.args.held c.requires
