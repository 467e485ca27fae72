use Rattle.std.proofs.Common.{◌≡◌, ℕ, Option, Some, None, [], ◌∷◌, ◌++◌, ◌==◌, length, refl, ap, subst, arith}
use Rattle.std.proofs.lemmas.Bool.Decides.{nat_tests}
use Rattle.std.proofs.lemmas.Option.{slice_get_within}
use Rattle.sa_keys.specs.Key.{key_of}
use Rattle.sa_states.specs.Store.{StoreView, store_of, arrived}
use Rattle.sa_explore.specs.Doing.{states_of, HasMade}
use Rattle.sa_explore.proofs.Doings.{made-some, made-none}
use Rattle.sa_explore.specs.declared.search.Search.{Search}
use Rattle.sa_explore.proofs.Aheads.{some-run, later-on, kept-ahead}
use Rattle.sa_explore.proofs.search.Search.keep.Goals as goal

pub keep_ahead-requires-clause-run : goal.keep_ahead-requires-clause-run
keep_ahead-requires-clause-run g c =
    λ lt lives. some-run g.U.UserLevel.calls c.args.scope.now.workload c.args.run.now (c.args.turns.now ++ c.args.p ∷ []) c.requires.run

pub returns-clause-made : goal.returns-clause-made
returns-clause-made g c =
    let level = (g.met.U.UserLevel g.world.𝓛 g.world.𝓜 g.world.𝓡 ((λ s x. x), (λ x. x), (λ x. x), λ x. x)) in
    let keyed = (g.met.U.Keyed g.world.𝓛 g.world.𝓜 g.world.𝓡 ((λ s x. x), (λ x. x), (λ x. x), λ x. x)) in
    let old = c.args.self.now in
    let scope = c.args.scope.now in
    let goes = c.requires.goes in
    let key = c.args.tried.key.items in
    let state = c.args.tried.state in
    let store : StoreView = store_of c.arrive.new.self in
    let is : (store, Some c.in-Some.to) ≡ arrived scope.most key state (store_of old.store) =
    subst (λ (o : Option ℕ). (store, o) ≡ arrived scope.most key state (store_of old.store)) c.in-Some.is c.in_ok-to.ensures.ok in
    made-some g.U.UserLevel.calls g.U.Keyed.plain g.U.Keyed.is_made keyed.ignores_numbers g.U.UserLevel.stands level.keeps (key_of g.U.Keyed.value_key g.U.Keyed.context_key) c.keys_tell_outlooks.ensures scope c.ranges-2.ensures
    old (record { store = c.arrive.new.self; nexts = c.push.new.self; ahead = c.keep_ahead.new.ahead }) c.args.at c.args.p.0 c.requires.done c.requires.within
    (slice_get_within (states_of old) c.args.at goes.0 goes.1) c.args.turns.now key state c.in-Some.to c.requires.turns c.requires.tried is
    c.in_ok-push.ensures.items

pub returns-clause-ahead : goal.returns-clause-ahead
returns-clause-ahead g c =
    let level = (g.met.U.UserLevel g.world.𝓛 g.world.𝓜 g.world.𝓡 ((λ s x. x), (λ x. x), (λ x. x), λ x. x)) in
    let keyed = (g.met.U.Keyed g.world.𝓛 g.world.𝓜 g.world.𝓡 ((λ s x. x), (λ x. x), (λ x. x), λ x. x)) in
    let old = c.args.self.now in
    let scope = c.args.scope.now in
    let goes = c.requires.goes in
    let key = c.args.tried.key.items in
    let state = c.args.tried.state in
    let store : StoreView = store_of c.arrive.new.self in
    let is : (store, Some c.in-Some.to) ≡ arrived scope.most key state (store_of old.store) =
    subst (λ (o : Option ℕ). (store, o) ≡ arrived scope.most key state (store_of old.store)) c.in-Some.is c.in_ok-to.ensures.ok in
    let new : Search = record { store = c.arrive.new.self; nexts = c.push.new.self; ahead = c.keep_ahead.new.ahead } in
    let made : HasMade g.U.UserLevel.calls g.U.Keyed.plain (key_of g.U.Keyed.value_key g.U.Keyed.context_key) scope old new c.args.at c.args.p.0 =
    made-some g.U.UserLevel.calls g.U.Keyed.plain g.U.Keyed.is_made keyed.ignores_numbers g.U.UserLevel.stands level.keeps (key_of g.U.Keyed.value_key g.U.Keyed.context_key) c.keys_tell_outlooks.ensures scope c.ranges-2.ensures
    old new c.args.at c.args.p.0 c.requires.done c.requires.within
    (slice_get_within (states_of old) c.args.at goes.0 goes.1) c.args.turns.now key state c.in-Some.to c.requires.turns c.requires.tried is
    c.in_ok-push.ensures.items in
    kept-ahead g.U.UserLevel.calls g.U.Keyed.plain (key_of g.U.Keyed.value_key g.U.Keyed.context_key) scope old new c.args.at c.args.p.0 c.requires.done
    (slice_get_within (states_of old) c.args.at goes.0 goes.1) made c.args.turns.now c.requires.turns scope.most c.in-Some.to key c.args.p state
    c.args.run.now (c.in-Some.to == length c.states-states.result.now) old.ahead.items c.requires.tried is
    (λ yes. (let size = ap length c.states-states.ensures in grind (arith, nat_tests, yes, size))) c.requires.run
    (later-on g.U.UserLevel.calls g.U.Keyed.plain (key_of g.U.Keyed.value_key g.U.Keyed.context_key) scope scope.most key state (store_of old.store) store (Some c.in-Some.to) old.ahead.items
    old.ahead.items c.requires.done.searching.search.linked is (0, refl) c.requires.ahead)
    c.in_ok-keep_ahead.ensures

pub returns-in_default-clause-made : goal.returns-in_default-clause-made
returns-in_default-clause-made g c =
    let level = (g.met.U.UserLevel g.world.𝓛 g.world.𝓜 g.world.𝓡 ((λ s x. x), (λ x. x), (λ x. x), λ x. x)) in
    let keyed = (g.met.U.Keyed g.world.𝓛 g.world.𝓜 g.world.𝓡 ((λ s x. x), (λ x. x), (λ x. x), λ x. x)) in
    let old = c.args.self.now in
    let scope = c.args.scope.now in
    let goes = c.requires.goes in
    let key = c.args.tried.key.items in
    let state = c.args.tried.state in
    let store : StoreView = store_of c.arrive.new.self in
    let is : (store, None) ≡ arrived scope.most key state (store_of old.store) =
    subst (λ (o : Option ℕ). (store, o) ≡ arrived scope.most key state (store_of old.store)) c.in_default.is c.in_ok-to.ensures.ok in
    made-none g.U.UserLevel.calls g.U.Keyed.plain g.U.Keyed.is_made keyed.ignores_numbers g.U.UserLevel.stands level.keeps (key_of g.U.Keyed.value_key g.U.Keyed.context_key) c.keys_tell_outlooks.ensures scope c.ranges-2.ensures
    old (record { store = c.arrive.new.self; nexts = old.nexts; ahead = old.ahead }) c.args.at c.args.p.0 c.requires.done c.requires.within
    (slice_get_within (states_of old) c.args.at goes.0 goes.1) c.args.turns.now key state c.requires.turns c.requires.tried is refl

pub returns-in_default-clause-ahead : goal.returns-in_default-clause-ahead
returns-in_default-clause-ahead g c =
    let level = (g.met.U.UserLevel g.world.𝓛 g.world.𝓜 g.world.𝓡 ((λ s x. x), (λ x. x), (λ x. x), λ x. x)) in
    let keyed = (g.met.U.Keyed g.world.𝓛 g.world.𝓜 g.world.𝓡 ((λ s x. x), (λ x. x), (λ x. x), λ x. x)) in
    let old = c.args.self.now in
    let scope = c.args.scope.now in
    let goes = c.requires.goes in
    let key = c.args.tried.key.items in
    let state = c.args.tried.state in
    let store : StoreView = store_of c.arrive.new.self in
    let is : (store, None) ≡ arrived scope.most key state (store_of old.store) =
    subst (λ (o : Option ℕ). (store, o) ≡ arrived scope.most key state (store_of old.store)) c.in_default.is c.in_ok-to.ensures.ok in
    later-on g.U.UserLevel.calls g.U.Keyed.plain (key_of g.U.Keyed.value_key g.U.Keyed.context_key) scope scope.most key state (store_of old.store) store None old.ahead.items
    old.ahead.items c.requires.done.searching.search.linked is (0, refl) c.requires.ahead
