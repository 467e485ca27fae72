use Rattle.std.proofs.Common.{◌≡◌, Some, slice_get, refl, ap, ◌∙◌, arith}
use Rattle.std.proofs.lemmas.Option.{slice_get_within}
use Rattle.sa_keys.specs.Key.{key_of}
use Rattle.sa_states.specs.declared.store.Store.{Store}
use Rattle.sa_states.specs.Store.{store_of}
use Rattle.sa_explore.specs.Doing.{states_of}
use Rattle.sa_explore.proofs.Doings.{passed-again, all-made}
use Rattle.sa_explore.proofs.search.Search.pass_over.Goals as goal

pub loop-p-preserved : goal.loop-p-preserved
loop-p-preserved g c =
    let level = (g.met.U.UserLevel g.world.𝓛 g.world.𝓜 g.world.𝓡 ((λ s x. x), (λ x. x), (λ x. x), λ x. x)) in
    let keyed = (g.met.U.Keyed g.world.𝓛 g.world.𝓜 g.world.𝓡 ((λ s x. x), (λ x. x), (λ x. x), λ x. x)) in
    let ends = c.requires.ends in
    let is : slice_get (states_of c.loop-p.self) c.args.at ≡ Some ends.0 =
    ap (λ (store : Store). slice_get (store_of store).states c.args.at) c.loop-p.invariant.store ∙ ends.1 in
    record {
      done = passed-again g.U.UserLevel.calls g.U.Keyed.plain g.U.Keyed.is_made keyed.ignores_numbers g.U.UserLevel.stands level.keeps (key_of g.U.Keyed.value_key g.U.Keyed.context_key) c.args.scope.now c.ranges-2.ensures
          c.loop-p.self (record { store = c.loop-p.self.store; nexts = c.push.new.self; ahead = c.loop-p.self.ahead }) c.args.at c.loop-p._p ends.0 c.loop-p.invariant.done is ends.2
          (let below = c.loop-p-test.true in let same = c.processors-p-end.ensures.value in omega (arith, below, same))
          refl c.in_ok-push.ensures.items;
      ahead = c.loop-p.invariant.ahead;
      store = c.loop-p.invariant.store;
    }

pub returns-clause-made : goal.returns-clause-made
returns-clause-made g c =
    let level = (g.met.U.UserLevel g.world.𝓛 g.world.𝓜 g.world.𝓡 ((λ s x. x), (λ x. x), (λ x. x), λ x. x)) in
    let keyed = (g.met.U.Keyed g.world.𝓛 g.world.𝓜 g.world.𝓡 ((λ s x. x), (λ x. x), (λ x. x), λ x. x)) in
    let ends = c.requires.ends in
    let is : slice_get (states_of c.loop-p.self) c.args.at ≡ Some ends.0 =
    ap (λ (store : Store). slice_get (store_of store).states c.args.at) c.loop-p.invariant.store ∙ ends.1 in
    let all : c.loop-p._p ≡ c.args.scope.now.workload.processors =
    (let above = c.loop-p-test.false in let below = c.loop-p.auto._p-end in let same = c.processors-p-end.ensures.value in omega (arith, above, below, same)) in (
      all-made g.U.UserLevel.calls g.U.Keyed.plain g.U.Keyed.is_made keyed.ignores_numbers g.U.UserLevel.stands level.keeps (key_of g.U.Keyed.value_key g.U.Keyed.context_key) c.args.scope.now c.ranges-2.ensures c.loop-p.self c.args.at c.loop-p._p c.loop-p.invariant.done all,
      slice_get_within (states_of c.loop-p.self) c.args.at ends.0 is,
    )
