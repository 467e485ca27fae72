use Rattle.sa_package_model.proofs.Able.{step_can}
use Rattle.sa_package.proofs.level.FastThreadsUserLevel.step.Goals as goal

pub step-requires-clause-can : goal.step-requires-clause-can
step-requires-clause-can c =
    let r = c.requires.turn in
    step_can r.setting r.event c.args.self.now r.others r.value r.act c.args.ctx.now r.mine c.args.seen.now.event r.later r.within c.args.seen.now r.sees
