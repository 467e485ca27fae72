use Rattle.std.proofs.Common.{ap, ◌∙◌}
use Rattle.sa_machine.proofs.CountLemmas.{user-is}
use Rattle.sa_machine.proofs.users.Users.local.Goals as goal

pub returns : goal.returns
returns g c = λ u at.
    c.local.ensures ∙ ap (λ (x : g.row.U.Denot). g.U.UserLevel.calls.local x c.args.ctx.now)
    (user-is c.self.view_is c.from.ensures c.requires.within c.index.ensures at)
