use Rattle.std.proofs.Common.{List, refl, sym, subst}
use Rattle.std.proofs.lemmas.Option.{slice_get_within}
use Rattle.sa_base.specs.declared.number.ProcNo.{ProcNo}
use Rattle.sa_keys.specs.Key.{key_of}
use Rattle.sa_states.specs.Store.{store_of}
use Rattle.sa_explore_runs.specs.Runs.{CanLead}
use Rattle.sa_explore_runs.specs.Runs.{IsOpen}
use Rattle.sa_explore.specs.Doing.{states_of}
use Rattle.sa_explore.proofs.Doings.{way-leads, way-open}
use Rattle.sa_explore.proofs.Aheads.{ahead-from, taken-on, kept-beside}
use Rattle.sa_explore.proofs.search.Search.turn.Goals as goal

pub turn_from-requires-clause-leads : goal.turn_from-requires-clause-leads
turn_from-requires-clause-leads g c =
    λ lt lives. let level = (g.met.U.UserLevel g.world.𝓛 g.world.𝓜 g.world.𝓡 ((λ s x. x), (λ x. x), (λ x. x), λ x. x)) in
    let keyed = (g.met.U.Keyed g.world.𝓛 g.world.𝓜 g.world.𝓡 ((λ s x. x), (λ x. x), (λ x. x), λ x. x)) in
    let old = c.args.self.now in
    let scope = c.args.scope.now in
    let goes = c.requires.goes in
    subst (λ (ps : List ProcNo). CanLead g.U.UserLevel.calls scope.workload ps) (sym c.requires.turns)
    (way-leads g.U.UserLevel.calls g.U.Keyed.plain g.U.Keyed.is_made keyed.ignores_numbers g.U.UserLevel.stands level.keeps (key_of g.U.Keyed.value_key g.U.Keyed.context_key) scope.workload c.ranges-2.ensures scope.begun.items (store_of old.store) old.nexts.items c.args.at c.args.p.0
    c.requires.done.searching c.args.at (slice_get_within (states_of old) c.args.at goes.0 goes.1))

pub turn_from-requires-clause-goes : goal.turn_from-requires-clause-goes
turn_from-requires-clause-goes g c =
    λ lt lives. let level = (g.met.U.UserLevel g.world.𝓛 g.world.𝓜 g.world.𝓡 ((λ s x. x), (λ x. x), (λ x. x), λ x. x)) in
    let keyed = (g.met.U.Keyed g.world.𝓛 g.world.𝓜 g.world.𝓡 ((λ s x. x), (λ x. x), (λ x. x), λ x. x)) in
    let old = c.args.self.now in
    let scope = c.args.scope.now in
    let goes = c.requires.goes in
    subst (λ (ps : List ProcNo). IsOpen g.U.UserLevel.calls scope.workload ps) (sym c.requires.turns)
    (way-open g.U.UserLevel.calls g.U.Keyed.plain g.U.Keyed.is_made keyed.ignores_numbers g.U.UserLevel.stands level.keeps (key_of g.U.Keyed.value_key g.U.Keyed.context_key) scope.workload c.ranges-2.ensures scope.begun.items (store_of old.store) old.nexts.items c.args.at c.args.p.0
    c.requires.done.searching c.args.at goes.0 goes.1 goes.2)

pub turn_from-requires-clause-ahead : goal.turn_from-requires-clause-ahead
turn_from-requires-clause-ahead g c =
    λ lt lives. ahead-from g.U.UserLevel.calls g.U.Keyed.plain (key_of g.U.Keyed.value_key g.U.Keyed.context_key) c.args.scope.now c.args.self.now c.args.turns.now c.args.at c.requires.turns c.requires.ahead

-- what was done is done beside other turns that were made ahead
pub keep-made-requires-clause-done : goal.keep-made-requires-clause-done
keep-made-requires-clause-done g c = λ lt lives. record { searching = c.requires.done.searching; room = c.requires.done.room }

pub keep-made-requires-clause-ahead : goal.keep-made-requires-clause-ahead
keep-made-requires-clause-ahead g c =
    λ lt lives. taken-on g.U.UserLevel.calls g.U.Keyed.plain (key_of g.U.Keyed.value_key g.U.Keyed.context_key) c.args.scope.now (states_of c.args.self.now)
    c.args.self.now.ahead.items c.turn_from.new.ahead.items c.in_ok-tried.ensures.rest c.requires.ahead

pub returns-clause-made : goal.returns-clause-made
returns-clause-made g c =
    let old = c.args.self.now in
    kept-beside g.U.UserLevel.calls g.U.Keyed.plain (key_of g.U.Keyed.value_key g.U.Keyed.context_key) c.args.scope.now old
    (record { store = old.store; nexts = old.nexts; ahead = c.turn_from.new.ahead }) c.keep-made.new.self c.args.at c.args.p.0 c.keep-made.result refl c.keep-made.ensures.made
