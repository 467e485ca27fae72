use Rattle.std.proofs.Common.{◌≡◌, ◌<◌, None, ap, sym, subst}
use Rattle.std.proofs.lemmas.Result.{on_err_weaker}
use Rattle.sa_core.specs.View.{CoreView, machine}
use Rattle.sa_core_model.specs.End.{end_of}
use Rattle.sa_debug.specs.OverMachines.{SessionView}
use Rattle.sa_debug.proofs.Keeping.{kept-turn}
use Rattle.sa_debug.proofs.session.Session.turn.Goals as goal

pub invariant_of-self : goal.invariant_of-self
invariant_of-self g c =
    let core : c.args.self.now.core ≡ c.self.inside.core = sym (ap (λ (v : SessionView g.row.U.Denot g.row.U-Ctx.Denot). v.core) c.self.view_is) in
    kept-turn g.U.UserLevel.calls c.turn.result c.self.inside.core c.turn.new.self c.self.inside.follower c.args.p c.self.invariant
    (subst (λ (x : CoreView g.row.U.Denot g.row.U-Ctx.Denot). end_of g.U.UserLevel.calls x.budget (machine x) ≡ None) core c.requires.not_ended)
    (subst (λ (x : CoreView g.row.U.Denot g.row.U-Ctx.Denot). c.args.p.0 < (machine x).workload.processors) core c.requires.within)
    c.turn.ensures.ok c.turn.ensures.event c.turn.ensures.workload c.turn.ensures.budget
    (on_err_weaker c.turn.result (λ e. e.1.machine_same) c.turn.ensures.err)
