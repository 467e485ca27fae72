use Rattle.std.proofs.Common.{Option, sym, subst}
use Rattle.std.specs.Prelude.{IfSome}
use Rattle.sa_explore_model.specs.declared.answer.Found.{Found}
use Rattle.sa_explore_runs.specs.Runs.{CanBeRun}
use Rattle.sa_explore_run.specs.Behind.{LeadToStuck}
use Rattle.sa_explore_run.specs.Answer.{AreStuckWaits}
use Rattle.sa_explore_run.proofs.Schedules.{stuck-run, stuck-end, are-within}
use Rattle.sa_explore_run.proofs.run.search.Goals as goal

pub stuck_waits-requires-clause-run : goal.stuck_waits-requires-clause-run
stuck_waits-requires-clause-run g c = λ κs outlives.
    let keys = (g.met.U.Keyed g.world.𝓛 g.world.𝓜 g.world.𝓡 ((λ s x. x), (λ x. x), (λ x. x), λ x. x)).ignores_numbers in
    let keep = (g.met.U.UserLevel g.world.𝓛 g.world.𝓜 g.world.𝓡 ((λ s x. x), (λ x. x), (λ x. x), λ x. x)).keeps in
    subst (λ (o : Option Found). IfSome o (λ found. CanBeRun g.U.UserLevel.calls c.args.workload.now found.schedule.items)) (sym c.as_ref.ensures.value)
    (stuck-run g.U.UserLevel.calls g.U.Keyed.plain g.U.Keyed.is_made keys g.U.UserLevel.stands keep
    c.args.workload.now c.ranges-2.ensures c.args.most c.in_ok-explored.explored c.in_ok-explored.ensures)

pub stuck_waits-requires-clause-stuck : goal.stuck_waits-requires-clause-stuck
stuck_waits-requires-clause-stuck g c = λ κs outlives.
    let keys = (g.met.U.Keyed g.world.𝓛 g.world.𝓜 g.world.𝓡 ((λ s x. x), (λ x. x), (λ x. x), λ x. x)).ignores_numbers in
    let keep = (g.met.U.UserLevel g.world.𝓛 g.world.𝓜 g.world.𝓡 ((λ s x. x), (λ x. x), (λ x. x), λ x. x)).keeps in
    subst (λ (o : Option Found). IfSome o (λ found. LeadToStuck g.U.UserLevel.calls c.args.workload.now found.schedule.items)) (sym c.as_ref.ensures.value)
    (stuck-end g.U.UserLevel.calls g.U.Keyed.plain g.U.Keyed.is_made keys g.U.UserLevel.stands keep
    c.args.workload.now c.ranges-2.ensures c.args.most c.in_ok-explored.explored c.in_ok-explored.ensures)

pub returns : goal.returns
returns g c =
    let keys = (g.met.U.Keyed g.world.𝓛 g.world.𝓜 g.world.𝓡 ((λ s x. x), (λ x. x), (λ x. x), λ x. x)).ignores_numbers in
    let keep = (g.met.U.UserLevel g.world.𝓛 g.world.𝓜 g.world.𝓡 ((λ s x. x), (λ x. x), (λ x. x), λ x. x)).keeps in
    record {
      explored = c.in_ok-explored.ensures;
      waits =
          subst (λ (o : Option Found). AreStuckWaits g.U.UserLevel.calls c.args.workload.now o c.in_ok-waits.waits.items) c.as_ref.ensures.value
          c.in_ok-waits.ensures;
      within =
          are-within g.U.UserLevel.calls g.U.Keyed.plain g.U.Keyed.is_made keys g.U.UserLevel.stands keep
          c.args.workload.now c.ranges-2.ensures c.args.most c.in_ok-explored.explored c.in_ok-explored.ensures;
    }
