use Rattle.std.proofs.Common.{rules, ◌≡◌, None, inr, refl, sym, ap, ◌∙◌}
use Rattle.sa_core.specs.View.{machine}
use Rattle.sa_core_model.specs.End.{end_of}
use Rattle.sa_debug.specs.OverMachines.{SessionView, over_machines, session}
use Rattle.sa_debug.proofs.Keeping.{same-end}
use Rattle.sa_debug.proofs.Running.{stops-at, stops-halted}
use Rattle.sa_debug.proofs.session.Session.next_turn.Goals as goal

pub returns-in_default-next-clause-next : goal.returns-in_default-next-clause-next
returns-in_default-next-clause-next g c =
    let s = c.args.self.now in
    let core : c.self.inside.core ≡ s.core = ap (λ (v : SessionView g.row.U.Denot g.row.U-Ctx.Denot). v.core) c.self.view_is in
    let on : end_of g.U.UserLevel.calls s.core.budget (machine s.core) ≡ None =
    sym (same-end g.U.UserLevel.calls c.self.inside.core s.core s.core.budget core refl) ∙ sym c.end.ensures ∙ c.in_default.is in
    inr (stops-halted (over_machines g.U.UserLevel.calls s.core.budget) (session s) on (sym c.next.ensures.next ∙ c.in_default-next.is))

pub returns-in-Some-point_at-clause-next : goal.returns-in-Some-point_at-clause-next
returns-in-Some-point_at-clause-next g c =
    let s = c.args.self.now in
    let core : c.self.inside.core ≡ s.core = ap (λ (v : SessionView g.row.U.Denot g.row.U-Ctx.Denot). v.core) c.self.view_is in
    let on : end_of g.U.UserLevel.calls s.core.budget (machine s.core) ≡ None =
    sym (same-end g.U.UserLevel.calls c.self.inside.core s.core s.core.budget core refl) ∙ sym c.end.ensures ∙ c.in_default.is in
    inr (stops-at (over_machines g.U.UserLevel.calls s.core.budget) (session s) _ c.in-Some-next.p c.in-Some-point_at.point _ on
    (sym c.next.ensures.next ∙ c.in-Some-next.is) (sym c.point_at.ensures ∙ c.in-Some-point_at.is) refl (search rules))
