use Rattle.sa_driven_model.proofs.Able.{go_can}
use Rattle.sa_driven.proofs.Seats.{goes_local}
use Rattle.sa_driven.proofs.level.DrivenUserLevel.went.Goals as goal

pub went-requires-clause-can : goal.went-requires-clause-can
went-requires-clause-can c =
    let r = c.requires.going in go_can r.setting r.event c.args.self.now r.others r.value r.act c.args.ctx.now r.mine

pub went-requires-clause-out : goal.went-requires-clause-out
went-requires-clause-out c =
    let r = c.requires.going in (goes_local r.setting c.args.self.now c.args.n c.args.ctx.now.inside c.args.ctx.now.thread r.goes).0

pub went-requires-clause-thread : goal.went-requires-clause-thread
went-requires-clause-thread c =
    let r = c.requires.going in (goes_local r.setting c.args.self.now c.args.n c.args.ctx.now.inside c.args.ctx.now.thread r.goes).1
