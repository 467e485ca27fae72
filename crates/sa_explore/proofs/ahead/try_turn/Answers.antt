use Rattle.sa_core.specs.View.{machine}
use Rattle.sa_explore_runs.proofs.Schedules.{can-be-run}
use Rattle.sa_explore.proofs.Replays.{open-ready, one-more}
use Rattle.sa_explore.proofs.ahead.try_turn.Goals as goal

pub replay-requires-after_bounds : goal.replay-requires-after_bounds
replay-requires-after_bounds g c =
    λ lt lives. let level = (g.met.U.UserLevel g.world.𝓛 g.world.𝓜 g.world.𝓡 ((λ s x. x), (λ x. x), (λ x. x), λ x. x)) in
    let keyed = (g.met.U.Keyed g.world.𝓛 g.world.𝓜 g.world.𝓡 ((λ s x. x), (λ x. x), (λ x. x), λ x. x)) in
    can-be-run g.U.UserLevel.calls g.U.Keyed.plain g.U.Keyed.is_made keyed.ignores_numbers g.U.UserLevel.stands level.keeps c.args.workload.now c.ranges-2.ensures
    c.args.turns.now c.requires.leads.0 c.requires.leads.1

pub make_turn-requires-clause-goes : goal.make_turn-requires-clause-goes
make_turn-requires-clause-goes g c = λ lt lives. c.requires.goes (machine c.in_ok-core.core) c.in_ok-core.ensures.leads

pub make_turn-requires-clause-can : goal.make_turn-requires-clause-can
make_turn-requires-clause-can g c =
    λ lt lives. let level = (g.met.U.UserLevel g.world.𝓛 g.world.𝓜 g.world.𝓡 ((λ s x. x), (λ x. x), (λ x. x), λ x. x)) in
    let keyed = (g.met.U.Keyed g.world.𝓛 g.world.𝓜 g.world.𝓡 ((λ s x. x), (λ x. x), (λ x. x), λ x. x)) in
    (open-ready g.U.UserLevel.calls g.U.Keyed.plain g.U.Keyed.is_made keyed.ignores_numbers g.U.UserLevel.stands level.keeps c.args.workload.now c.ranges-2.ensures c.args.turns.now c.args.p (machine c.in_ok-core.core) c.requires.few c.requires.within c.requires.goes c.in_ok-core.ensures.leads).can

pub returns-in-Ok-clause-tried : goal.returns-in-Ok-clause-tried
returns-in-Ok-clause-tried g c =
    let made = c.in-Ok.ensures.made in
    record {
      from = machine c.in_ok-core.core;
      after = machine c.make_turn.new.core;
      leads = c.in_ok-core.ensures.leads;
      turn = made.turn;
      key_is = made.key_is;
      state_is = made.state_is;
    }

pub returns-in-Ok-clause-run : goal.returns-in-Ok-clause-run
returns-in-Ok-clause-run g c = record {
  leads = one-more g.U.UserLevel.calls c.args.workload.now c.args.turns.now (machine c.in_ok-core.core) (machine c.make_turn.new.core) c.args.p
      c.in_ok-core.ensures.leads c.in-Ok.ensures.made.turn;
  budget = c.make_turn.ensures.budget;
}
