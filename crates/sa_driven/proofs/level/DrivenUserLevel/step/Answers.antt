use Rattle.sa_driven_model.proofs.Able.{step_can}
use Rattle.sa_driven.proofs.level.DrivenUserLevel.step.Goals as goal

pub step-requires-clause-can : goal.step-requires-clause-can
step-requires-clause-can c =
    let r = c.requires.turn in
    step_can r.setting r.event c.args.self.now r.others r.value r.act c.args.ctx.now r.mine c.args.seen.now r.later r.within
