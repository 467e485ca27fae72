use Rattle.sa_package_model.proofs.Able.{seat_can}
use Rattle.sa_package.proofs.level.FastThreadsUserLevel.local.Goals as goal

pub local-requires : goal.local-requires
local-requires c = let r = c.requires in seat_can r.setting r.event c.args.self.now r.others r.value r.act c.args.ctx.now r.mine
