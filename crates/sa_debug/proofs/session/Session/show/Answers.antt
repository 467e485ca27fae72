use Rattle.std.proofs.Common.{ap, ◌∙◌}
use Rattle.sa_debug.specs.Session.{shown}
use Rattle.sa_debug.specs.OverMachines.{SessionView, session}
use Rattle.sa_debug.proofs.Keeping.{view-followed}
use Rattle.sa_debug.proofs.session.Session.show.Goals as goal

pub returns-clause-ok : goal.returns-clause-ok
returns-clause-ok g c = (
  ap session c.self.view_is,
  c.told_view.ensures ∙ ap shown (c.view.ensures ∙ view-followed g.U.UserLevel.calls c.self.inside.core c.args.self.now.core c.args.self.now.core.budget
      c.self.inside.follower c.follow.new.self c.items.result.now c.args.s c.args.t c.self.invariant c.follow.ensures.workload c.follow.ensures.behind c.in_ok-follow.ensures.ok
      (c.items.ensures ∙ c.trace.ensures)
      (ap (λ (v : SessionView g.row.U.Denot g.row.U-Ctx.Denot). v.core) c.self.view_is)),
)
