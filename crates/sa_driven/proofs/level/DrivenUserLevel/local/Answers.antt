use Rattle.sa_driven_model.proofs.Able.{go_can}
use Rattle.sa_driven.proofs.Seats.{thread_of}
use Rattle.sa_driven.proofs.level.DrivenUserLevel.local.Goals as goal

pub local-requires : goal.local-requires
local-requires c =
    let r = c.requires in
    thread_of c.args.self.now c.args.ctx.now.thread (go_can r.setting r.event c.args.self.now r.others r.value r.act c.args.ctx.now r.mine)
