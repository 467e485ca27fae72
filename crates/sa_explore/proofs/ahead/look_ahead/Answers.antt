use Rattle.std.proofs.Common.{◌≡◌, ℕ, ◌-◌, None, sym, ap, ◌∙◌, arith}
use Rattle.sa_base.specs.declared.limits.TheConstants.{MAX_EVENTS}
use Rattle.sa_core_model.specs.End.{end_of}
use Rattle.sa_core.specs.View.{machine}
use Rattle.sa_explore_runs.proofs.Ends.{ended-not}
use Rattle.sa_explore.proofs.Replays.{none-of, ready-on}
use Rattle.sa_explore.proofs.ahead.look_ahead.Goals as goal

pub make_turn-requires-clause-goes : goal.make_turn-requires-clause-goes
make_turn-requires-clause-goes g c = λ lt lives.
    let none : end_of g.U.UserLevel.calls MAX_EVENTS (machine c.args.core.now) ≡ None =
    ap (λ (n : ℕ). end_of g.U.UserLevel.calls n (machine c.args.core.now)) (sym c.requires.run.1.budget) ∙ sym c.end.ensures
    ∙ none-of c.end.result (sym c.is_some.ensures ∙ c.if-is_some.false) in
    ended-not g.U.UserLevel.calls MAX_EVENTS (machine c.args.core.now) none

pub make_turn-requires-clause-can : goal.make_turn-requires-clause-can
make_turn-requires-clause-can g c =
    λ lt lives. let level = (g.met.U.UserLevel g.world.𝓛 g.world.𝓜 g.world.𝓡 ((λ s x. x), (λ x. x), (λ x. x), λ x. x)) in
    let keyed = (g.met.U.Keyed g.world.𝓛 g.world.𝓜 g.world.𝓡 ((λ s x. x), (λ x. x), (λ x. x), λ x. x)) in
    let none : end_of g.U.UserLevel.calls MAX_EVENTS (machine c.args.core.now) ≡ None =
    ap (λ (n : ℕ). end_of g.U.UserLevel.calls n (machine c.args.core.now)) (sym c.requires.run.1.budget) ∙ sym c.end.ensures
    ∙ none-of c.end.result (sym c.is_some.ensures ∙ c.if-is_some.false) in
    (ready-on g.U.UserLevel.calls g.U.Keyed.plain g.U.Keyed.is_made keyed.ignores_numbers g.U.UserLevel.stands level.keeps c.args.workload.now c.ranges-2.ensures
    c.requires.run.0 (record { 0 = c.processors.result - 1 }) (machine c.args.core.now) c.requires.run.1.leads none
    (let some = c.ranges-2.ensures.some_processor in let value = c.processors.ensures.value in omega (arith, some, value))).can
