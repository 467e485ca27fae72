use Rattle.sa_driven_model.proofs.Able.{told_can}
use Rattle.sa_driven.proofs.level.DrivenUserLevel.told.Goals as goal

pub told-requires : goal.told-requires
told-requires c =
    let r = c.requires in told_can r.setting r.event c.args.self.now r.others r.value r.act c.args.ctx.now r.mine c.args.note c.args.held r.handed
