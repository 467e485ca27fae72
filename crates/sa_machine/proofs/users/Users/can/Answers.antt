use Rattle.std.proofs.Common.{ap, ◌∙◌}
use Rattle.sa_machine.proofs.CountLemmas.{user-is}
use Rattle.sa_machine.proofs.users.Users.can.Goals as goal

pub returns : goal.returns
returns g c = λ u at.
    c.can.ensures ∙ ap (λ (x : g.row.U.Denot). g.U.Asked.replies.can x c.args.seen.now c.args.ctx.now c.args.reply)
    (user-is c.self.view_is c.from.ensures c.requires c.index.ensures at)
