use Rattle.sa_package_model.proofs.Able.{go_can}
use Rattle.sa_package.proofs.level.FastThreadsUserLevel.went.Goals as goal

pub went-requires-clause-can : goal.went-requires-clause-can
went-requires-clause-can c =
    let r = c.requires.going in go_can r.setting r.event c.args.self.now r.others r.value r.act c.args.ctx.now r.mine c.args.n r.goes
