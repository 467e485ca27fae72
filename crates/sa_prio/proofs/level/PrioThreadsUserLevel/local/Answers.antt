use Rattle.sa_prio_model.proofs.Able.{local_thread}
use Rattle.sa_prio.proofs.level.PrioThreadsUserLevel.local.Goals as goal

pub local-requires : goal.local-requires
local-requires c = local_thread c.args.self.now c.args.ctx.now c.requires
