use Rattle.sa_machine.proofs.CountLemmas.{user-is, stopped-as}
use Rattle.sa_machine.proofs.users.Users.stopped.Goals as goal

pub returns : goal.returns
returns g c = λ u at.
    let is = user-is c.self.view_is c.from.ensures c.requires.within c.index-level.ensures at in
    stopped-as g.U.UserLevel.calls c.index-level.result.now u c.args.ctx c.thread-thread.result c.idle-idle.result is c.thread-thread.ensures c.idle-idle.ensures
