use Rattle.std.proofs.Common.{◌≡◌, ◌<◌, ap, ◌∙◌, subst}
use Rattle.std.specs.Prelude.{IfSome}
use Rattle.sa_spaces.specs.Workload.{WorkloadView}
use Rattle.sa_debug.specs.OverMachines.{SessionView}
use Rattle.sa_debug.specs.Order.{goes}
use Rattle.sa_debug.proofs.Ordering.{found-within}
use Rattle.sa_debug.proofs.session.Session.next.Goals as goal

pub returns-clause-within : goal.returns-clause-within
returns-clause-within g c =
    let n : c.processors-processors.result ≡ c.args.self.now.core.parts.workload.processors =
    c.processors-processors.ensures.value ∙ ap (λ (w : WorkloadView). w.processors) c.workload.ensures
    ∙ ap (λ (v : SessionView g.row.U.Denot g.row.U-Ctx.Denot). v.core.parts.workload.processors) c.self.view_is in
    subst (λ i. IfSome c.next.result (λ p. p.0 < i)) n
    (found-within (goes c.self.inside.halts) c.first.result c.processors-processors.result c.next.result c.processors-processors.ensures.some c.next.ensures)
