use Rattle.std.proofs.Common.{◌≡◌, ◌∙◌, ap, subst}
use Rattle.sa_spaces.specs.Workload.{WorkloadView, IsWorkload}
use Rattle.sa_core_model.specs.Machine.{Machine}
use Rattle.sa_core.specs.View.{machine}
use Rattle.sa_workers.proofs.Totals.{has-run}
use Rattle.sa_workers.proofs.Seated.{worked-back}
use Rattle.sa_workers.proofs.runs.run_named.Goals as goal

pub close-requires-after_bounds : goal.close-requires-after_bounds
close-requires-after_bounds g c κs within =
    let w = g.K.Named.workload in
    let is : (machine c.args.core).workload ≡ w = ap (λ (m : Machine g.row.U.Denot g.row.U-Ctx.Denot). m.workload) c.requires.core in
    let n : c.processors-processors.result ≡ w.processors =
    c.processors-processors.ensures.value ∙ ap (λ (v : WorkloadView). v.processors) (c.workload.ensures ∙ is) in
    (worked-back w g.K.Named.table w.processors c.processors-processors.result g.K.Named.budget c.args.limits.budget c.args.limits.burst c.in_ok-machine.seats.len
    c.in_ok-machine.seats.items c.as_mut_slice.result.now c.drive.new.seats
    c.in_ok-machine.ensures c.as_mut_slice.ensures.value c.in_ok-machine.seats.ok.0 c.drive.auto.seats n c.requires.limits c.drive.ensures).are

pub returns : goal.returns
returns g c =
    let keep = (g.met.U.UserLevel g.world.𝓛 g.world.𝓜 g.world.𝓡 ((λ s x. x), (λ x. x), (λ x. x), λ x. x)).keeps in
    let w = g.K.Named.workload in
    let is : (machine c.args.core).workload ≡ w = ap (λ (m : Machine g.row.U.Denot g.row.U-Ctx.Denot). m.workload) c.requires.core in
    let n : c.processors-processors.result ≡ w.processors =
    c.processors-processors.ensures.value ∙ ap (λ (v : WorkloadView). v.processors) (c.workload.ensures ∙ is) in
    let ok : IsWorkload w = subst (λ (v : WorkloadView). IsWorkload v) (c.workload-2.ensures ∙ is) c.ranges-2.ensures in
    let worked =
    worked-back w g.K.Named.table w.processors c.processors-processors.result g.K.Named.budget c.args.limits.budget c.args.limits.burst c.in_ok-machine.seats.len
    c.in_ok-machine.seats.items c.as_mut_slice.result.now c.drive.new.seats
    c.in_ok-machine.ensures c.as_mut_slice.ensures.value c.in_ok-machine.seats.ok.0 c.drive.auto.seats n c.requires.limits c.drive.ensures in
    has-run g.U.UserLevel.calls g.U.UserLevel.stands keep w g.K.Named.budget _ c.close.result ok worked.are worked.within c.close.ensures
