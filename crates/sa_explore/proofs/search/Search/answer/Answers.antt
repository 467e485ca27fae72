use Rattle.std.proofs.Common.{List, subst}
use Rattle.sa_base.specs.declared.number.ProcNo.{ProcNo}
use Rattle.sa_keys.specs.Key.{key_of}
use Rattle.sa_explore_model.specs.declared.answer.State.{State}
use Rattle.sa_states.specs.Answers.{Answers}
use Rattle.sa_explore.specs.Doing.{states_of}
use Rattle.sa_explore.proofs.Concluded.{over-of, explored-of}
use Rattle.sa_explore.proofs.search.Search.answer.Goals as goal

pub returns : goal.returns
returns g c =
    let level = (g.met.U.UserLevel g.world.𝓛 g.world.𝓜 g.world.𝓡 ((λ s x. x), (λ x. x), (λ x. x), λ x. x)) in
    let keyed = (g.met.U.Keyed g.world.𝓛 g.world.𝓜 g.world.𝓡 ((λ s x. x), (λ x. x), (λ x. x), λ x. x)) in
    let scope = c.args.scope.now in
    let search = c.args.self.now in
    let stopped = c.args.stopped.now in
    let x = c.in_ok-explored.explored in
    let is : Answers scope.begun.items (states_of search) stopped.extent stopped.at x =
    subst (λ (ps : List ProcNo). Answers ps (states_of search) stopped.extent stopped.at x) c.as_slice.ensures.value
    (subst (λ (xs : List State). Answers c.as_slice.result.now xs stopped.extent stopped.at x) c.states-states.ensures c.in_ok-explored.ensures) in
    explored-of g.U.UserLevel.calls g.U.Keyed.plain g.U.Keyed.is_made keyed.ignores_numbers g.U.UserLevel.stands level.keeps (key_of g.U.Keyed.value_key g.U.Keyed.context_key) scope c.ranges-2.ensures search c.requires.begins stopped.extent stopped.at
    (over-of g.U.UserLevel.calls g.U.Keyed.plain g.U.Keyed.is_made keyed.ignores_numbers g.U.UserLevel.stands level.keeps (key_of g.U.Keyed.value_key g.U.Keyed.context_key) scope c.ranges-2.ensures search c.requires.begins stopped.extent stopped.at c.requires.stopped)
    x is c.in_ok-endless.endless c.in_ok-endless.ensures
