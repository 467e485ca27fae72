use Rattle.std.proofs.Common.{ℕ, List, Option, ap}
use Rattle.sa_core.specs.View.{machine}
use Rattle.sa_keys.specs.Key.{key_of}
use Rattle.sa_states.specs.Store.{store_of}
use Rattle.sa_explore.proofs.Doings.{done-first}
use Rattle.sa_explore.proofs.search.Search.start.Goals as goal

pub returns-clause-done : goal.returns-clause-done
returns-clause-done g c =
    let level = (g.met.U.UserLevel g.world.𝓛 g.world.𝓜 g.world.𝓡 ((λ s x. x), (λ x. x), (λ x. x), λ x. x)) in
    let keyed = (g.met.U.Keyed g.world.𝓛 g.world.𝓜 g.world.𝓡 ((λ s x. x), (λ x. x), (λ x. x), λ x. x)) in
    done-first g.U.UserLevel.calls g.U.Keyed.plain g.U.Keyed.is_made keyed.ignores_numbers g.U.UserLevel.stands level.keeps (key_of g.U.Keyed.value_key g.U.Keyed.context_key) c.keys_tell_outlooks.ensures c.args.scope.now c.ranges-2.ensures
    (record { store = c.arrive.new.self; nexts = c.new.result; ahead = c.new-2.result }) (machine c.args.core.now)
    (record { before = 0; proc = record { 0 = 0 }; end = c.end_at.result }) (store_of c.new-store.result) c.in_ok-key.field-0.items c.in_ok-arrive.field-0
    c.requires.some c.requires.leads c.end_at.ensures c.in_ok-key.ensures c.new-store.ensures.states
    (λ b. ap (λ (number : List ℕ → Option ℕ). number b) c.new-store.ensures.number) c.in_ok-arrive.ensures.ok c.new.ensures.items
