use Rattle.std.proofs.Common.{ap, ◌∙◌}
use Rattle.sa_machine.proofs.CountLemmas.{user-is}
use Rattle.sa_machine.proofs.users.Users.owes.Goals as goal

pub returns : goal.returns
returns g c = λ u at.
    c.owes.ensures ∙ ap (λ (x : g.row.U.Denot). g.U.UserLevel.calls.owes x c.args.ctx.now)
    (user-is c.self.view_is c.from.ensures c.requires.within c.index.ensures at)
