use Rattle.std.proofs.Common.{sym, ap, subst, ◌∙◌}
use Rattle.sa_spaces.specs.Workload.{WorkloadView}
use Rattle.sa_core.specs.View.{machine}
use Rattle.sa_core_model.specs.Machine.{Machine}
use Rattle.sa_core_model.specs.Run.{opening}
use Rattle.sa_explore_runs.specs.Runs.{LeadTo, CanBeRun}
use Rattle.sa_explore.proofs.runs.replay.Goals as goal

pub make_turns-requires-clause-can : goal.make_turns-requires-clause-can
make_turns-requires-clause-can g c = λ κs outlives.
    subst (λ (w : WorkloadView). CanBeRun g.U.UserLevel.calls w c.args.turns.now)
    (sym (ap (λ (m : Machine g.row.U.Denot g.row.U-Ctx.Denot). m.workload) c.in_ok-core.ensures.opens)) c.requires

pub make_turns-requires-clause-opens : goal.make_turns-requires-clause-opens
make_turns-requires-clause-opens g c = λ κs outlives.
    let at = c.in_ok-core.ensures.opens in
    at ∙ ap (λ (m : Machine g.row.U.Denot g.row.U-Ctx.Denot). opening g.U.UserLevel.calls m.workload) (sym at)

pub returns-in-Ok-clause-leads : goal.returns-in-Ok-clause-leads
returns-in-Ok-clause-leads g c =
    subst (λ (w : WorkloadView). LeadTo g.U.UserLevel.calls w c.args.turns.now (machine c.make_turns.new.core))
    (ap (λ (m : Machine g.row.U.Denot g.row.U-Ctx.Denot). m.workload) c.in_ok-core.ensures.opens) c.in-Ok.ensures.leads
