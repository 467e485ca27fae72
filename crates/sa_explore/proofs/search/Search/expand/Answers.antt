use Rattle.std.proofs.Common.{◌≡◌, ◌≢◌, ℕ, ◌+◌, ◌<◌, ◌≤◌, ◌++◌, false, None, Some, List, length, get_or, slice_get, inr, sym, ap, ◌∙◌, subst, arith, length-append}
use Rattle.std.proofs.lemmas.Option.{slice_get-get_or}
use Rattle.std.specs.Option.{is_some}
use Rattle.sa_base.specs.declared.number.ProcNo.{ProcNo}
use Rattle.sa_base.specs.declared.limits.TheConstants.{MAX_EVENTS}
use Rattle.sa_keys.specs.Key.{key_of}
use Rattle.sa_explore_model.specs.declared.answer.State.{State}
use Rattle.sa_explore_model.specs.Search.{way_to}
use Rattle.sa_states.specs.Store.{store_of}
use Rattle.sa_explore.specs.Doing.{states_of, turns_to, RunsGoOn}
use Rattle.sa_explore.specs.declared.search.Search.{Search}
use Rattle.sa_explore.proofs.Replays.{none-of}
use Rattle.sa_explore.proofs.Doings.{way-few}
use Rattle.sa_explore.proofs.search.Search.expand.Goals as goal

-- any state
abbrev no_state : State
no_state = record { before = 0; proc = record { 0 = 0 }; end = None }

-- runs go on at a state that has no end
runs-go-on : (search : Search) (at : ℕ) (xs : List State) → xs ≡ states_of search → at < length (states_of search)
    → is_some (get_or xs at no_state).end ≡ false → RunsGoOn search at
runs-go-on search at xs same within goes =
    let there : at < length xs = subst (λ (ys : List State). at < length ys) (sym same) within in (
      get_or xs at no_state,
      subst (λ (ys : List State). slice_get ys at ≡ Some (get_or xs at no_state)) same (slice_get-get_or xs at no_state there),
      none-of (get_or xs at no_state).end goes,
    )

pub returns-then-len-eq-MAX_EVENTS-clause-made : goal.returns-then-len-eq-MAX_EVENTS-clause-made
returns-then-len-eq-MAX_EVENTS-clause-made g c =
    let scope = c.args.scope.now in
    let is : c.in_ok-turns.turns.items ≡ turns_to scope c.args.self.now c.args.at =
    c.in_ok-turns.ensures
    ∙ ap (λ (ps : List ProcNo). ps ++ way_to c.states-states.result.now c.args.at) c.as_slice.ensures.value
    ∙ ap (λ (xs : List State). scope.begun.items ++ way_to xs c.args.at) c.states-states.ensures in
    let size : length c.in_ok-turns.turns.items ≡ length scope.begun.items + length (way_to (states_of c.args.self.now) c.args.at) =
    ap length is ∙ length-append scope.begun.items (way_to (states_of c.args.self.now) c.args.at) in
    record {
      next = 0;
      some = (let some = c.ranges-2.ensures.some_processor in omega (arith, some));
      done = c.requires.done;
      within = c.requires.within;
      spent = inr (record {
        goes = runs-go-on c.args.self.now c.args.at c.states-states.result.now c.states-states.ensures c.requires.within
            (sym c.is_some.ensures ∙ c.if-is_some.false);
        most = sym size ∙ sym c.in_ok-turns.turns.ok.0 ∙ sym c.len.ensures ∙ c.if-len-eq-MAX_EVENTS.true;
      });
    }

pub turn_each-requires-clause-goes : goal.turn_each-requires-clause-goes
turn_each-requires-clause-goes g c = λ lt lives.
    runs-go-on c.args.self.now c.args.at c.states-states.result.now c.states-states.ensures c.requires.within
    (sym c.is_some.ensures ∙ c.if-is_some.false)

pub turn_each-requires-clause-few : goal.turn_each-requires-clause-few
turn_each-requires-clause-few g c =
    λ lt lives. let level = (g.met.U.UserLevel g.world.𝓛 g.world.𝓜 g.world.𝓡 ((λ s x. x), (λ x. x), (λ x. x), λ x. x)) in
    let keyed = (g.met.U.Keyed g.world.𝓛 g.world.𝓜 g.world.𝓡 ((λ s x. x), (λ x. x), (λ x. x), λ x. x)) in
    let scope = c.args.scope.now in
    let is : c.in_ok-turns.turns.items ≡ turns_to scope c.args.self.now c.args.at =
    c.in_ok-turns.ensures
    ∙ ap (λ (ps : List ProcNo). ps ++ way_to c.states-states.result.now c.args.at) c.as_slice.ensures.value
    ∙ ap (λ (xs : List State). scope.begun.items ++ way_to xs c.args.at) c.states-states.ensures in
    let few : length (turns_to scope c.args.self.now c.args.at) ≤ MAX_EVENTS =
    way-few g.U.UserLevel.calls g.U.Keyed.plain g.U.Keyed.is_made keyed.ignores_numbers g.U.UserLevel.stands level.keeps (key_of g.U.Keyed.value_key g.U.Keyed.context_key) scope.workload c.ranges-2.ensures scope.begun.items (store_of c.args.self.now.store) c.args.self.now.nexts.items c.args.at 0
    c.requires.done.searching c.args.at c.requires.within in
    let same : c.as_slice-2.result.now ≡ turns_to scope c.args.self.now c.args.at = c.as_slice-2.ensures.value ∙ is in
    let size = ap length same in
    let other : c.len.result ≢ MAX_EVENTS = c.if-len-eq-MAX_EVENTS.false in
    let count = c.len.ensures in
    let items = c.in_ok-turns.turns.ok.0 in
    let slice = ap length c.as_slice-2.ensures.value in
    omega (arith, few, size, other, count, items, slice)
