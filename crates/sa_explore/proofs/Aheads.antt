-- The turns that are made ahead are turns from the states that they name.
use Rattle.std.proofs.Common.{◌≡◌, ℕ, ◌+◌, ◌<◌, inl, inr, Bool, true, false, Result, Ok, Err, IfOk, Option, Some, None, IfSome, List, [], ◌∷◌, ◌++◌, length, All, get_or, slice_get, sym, ap, subst, ◌∙◌, arith, append_assoc, length-append}
use Rattle.std.proofs.lemmas.List.Elements.{All-push, All-drop}
use Rattle.std.proofs.lemmas.Option.{same_Some, slice_get_within, slice_get-get_or}
use Rattle.sa_lemmas.proofs.ListUpdates.{slice_get-append_seam}
use Rattle.sa_base.specs.declared.number.ProcNo.{ProcNo}
use Rattle.sa_spaces.specs.Space.{SpaceView}
use Rattle.sa_spaces.specs.Workload.{WorkloadView}
use Rattle.sa_abstract.specs.Calls.{Calls}
use Rattle.sa_core_model.specs.Machine.{Machine}
use Rattle.sa_core.specs.View.{CoreView, machine}
use Rattle.sa_outlook.specs.Outlook.{Outlook}
use Rattle.sa_explore_model.specs.declared.answer.State.{State}
use Rattle.sa_explore_model.specs.Search.{way_to, AreLinked}
use Rattle.sa_explore_model.proofs.Orders.{same-proc}
use Rattle.sa_explore_model.proofs.Ways.{way-push, way-linked}
use Rattle.sa_states.specs.Store.{StoreView, store_of, arrived}
use Rattle.sa_explore_runs.specs.Runs.{LeadTo}
use Rattle.sa_explore_runs.specs.Searching.{IsTried}
use Rattle.sa_explore_runs.proofs.Searched.{IsArrival, arrival}
use Rattle.sa_explore.specs.Ahead.{IsRun, IsMadeFrom, AreFrom, IsLater, IsMore, IsAhead, AreAhead}
use Rattle.sa_explore.specs.Doing.{states_of, turns_to, HasDone, HasMade, IsMade}
use Rattle.sa_explore.specs.declared.ahead.Tried.{Tried}
use Rattle.sa_explore.specs.declared.search.Scope.{Scope}
use Rattle.sa_explore.specs.declared.search.Search.{Search}

-- the first one that was made ahead, where it is the turn of this processor from this state
pub front-tried : {U C D : Type 0} (f : Calls U C) (plain : Option SpaceView → C → D) (code : Outlook U D → List ℕ) (w : WorkloadView)
    (turns : List ProcNo) (at : ℕ) (p : ProcNo) (ahead : List Tried) (t : Tried) → AreFrom f plain code w turns at ahead → slice_get ahead 0 ≡ Some t
    → t.state.before ≡ at → t.state.proc.0 ≡ p.0 → IsTried f plain code w turns p at t.key.items t.state
front-tried f plain code w turns at p ahead t all is before proc =
    let within : 0 < length ahead = slice_get_within ahead 0 t is in
    let same : get_or ahead 0 t ≡ t = same_Some (get_or ahead 0 t) t (sym (slice_get-get_or ahead 0 t within) ∙ is) in
    let tries : IsTried f plain code w turns t.state.proc at t.key.items t.state =
    subst (λ (x : Tried). x.state.before ≡ at → IsTried f plain code w turns x.state.proc at x.key.items x.state) same (all 0 t within) before in
    subst (λ (q : ProcNo). IsTried f plain code w turns q at t.key.items t.state) (same-proc t.state.proc p proc) tries

-- the turns of the run that is at hand
pub some-run : {U C : Type 0} (f : Calls U C) (w : WorkloadView) (run : Option (CoreView U C)) (turns : List ProcNo) → IfSome run (IsRun f w turns)
    → IfSome run (λ core. (ps : List ProcNo) × IsRun f w ps core)
some-run f w None turns is = tt
some-run f w (Some core) turns is = (turns, is)

module _ {U C D : Type 0} (f : Calls U C) (plain : Option SpaceView → C → D) (code : Outlook U D → List ℕ) (scope : Scope) where
  abbrev Is : List State → Tried → Type 0
  Is states tried = IsAhead f plain code scope states tried

  abbrev Are : List State → List Tried → Type 0
  Are states ahead = All (Is states) ahead

  abbrev Tries : List ProcNo → ProcNo → ℕ → Tried → Type 0
  Tries turns p at tried = IsTried f plain code scope.workload turns p at tried.key.items tried.state

  -- those from one state are turns after the turns to it
  pub ahead-from : (search : Search) (turns : List ProcNo) (at : ℕ) → turns ≡ turns_to scope search at → AreAhead f plain code scope search
      → AreFrom f plain code scope.workload turns at search.ahead.items
  ahead-from search turns at are all = λ k d within here. (
      let t : Tried = get_or search.ahead.items k d in
      let is : Tries (turns_to scope search t.state.before) t.state.proc t.state.before t = (all k d within).is in
      subst (λ (ps : List ProcNo). Tries ps t.state.proc at t) (sym are)
      (subst (λ (n : ℕ). Tries (turns_to scope search n) t.state.proc n t) here is)
      )

  -- A STATE MORE changes none of those before it
  more-states : (states more : List State) → AreLinked states → (t : Tried) → Is states t → Is (states ++ more) t
  more-states states more linked t is = record {
    within = (let size = length-append states more in let within = is.within in omega (arith, size, within));
    is = subst (λ (way : List ProcNo). Tries (scope.begun.items ++ way) t.state.proc t.state.before t)
        (sym (way-push states more t.state.before linked is.within)) is.is;
  }

  arrived-on : (most : ℕ) (bytes : List ℕ) (s : State) (old new : StoreView) (to : Option ℕ) → AreLinked old.states
      → (new, to) ≡ arrived most bytes s old → (t : Tried) → Is old.states t → Is new.states t
  arrived-on most bytes s old new to linked is t ahead = go (arrival most bytes s old new to is)
    where
      go : IsArrival most bytes s old new to → Is new.states t
      go (inl known) = subst (λ (x : StoreView). Is x.states t) (sym known.store) ahead
      go (inr (inl fresh)) = subst (λ (x : StoreView). Is x.states t) (sym fresh.store) (more-states old.states (s ∷ []) linked t ahead)
      go (inr (inr full)) = subst (λ (x : StoreView). Is x.states t) (sym full.store) ahead

  -- those that are left after some were taken
  pub taken-on : (states : List State) (xs ys : List Tried) → IsLater xs ys → Are states xs → Are states ys
  taken-on states xs ys later all = subst (Are states) (sym later.1) (All-drop (Is states) later.0 xs all)

  -- those that are left after some were taken, when a state was come to
  pub later-on : (most : ℕ) (bytes : List ℕ) (s : State) (old new : StoreView) (to : Option ℕ) (xs ys : List Tried) → AreLinked old.states
      → (new, to) ≡ arrived most bytes s old → IsLater xs ys → Are old.states xs → Are new.states ys
  later-on most bytes s old new to xs ys linked is later all =
      let left : Are old.states ys = taken-on old.states xs ys later all in
      λ k d within. arrived-on most bytes s old new to linked is (get_or ys k d) (left k d within)

  -- a turn that was made is made beside other turns that were made ahead
  made-beside : (old beside new : Search) (at next : ℕ) (made : Bool) → states_of beside ≡ states_of old
      → IsMade f plain code scope made beside new at next → IsMade f plain code scope made old new at next
  made-beside old beside new at next true same is = record {
    done = is.done;
    within = is.within;
    turns = is.turns ∙ ap (λ (states : List State). scope.begun.items ++ way_to states at) same;
    state = is.state ∙ ap (λ (states : List State). slice_get states at) same;
  }
  made-beside old beside new at next false same is = is

  pub kept-beside : {E : Type 0} (old beside new : Search) (at next : ℕ) (result : Result Bool E) → states_of beside ≡ states_of old
      → IfOk result (λ made. IsMade f plain code scope made beside new at next)
      → IfOk result (λ made. IsMade f plain code scope made old new at next)
  kept-beside old beside new at next (Ok made) same is = made-beside old beside new at next made same is
  kept-beside old beside new at next (Err e) same is = is

  -- THE TURN AHEAD from a state that is new
  made-ahead : (states : List State) (from : Machine U C) (to : ℕ) (t : Tried) → to < length states
      → LeadTo f scope.workload (scope.begun.items ++ way_to states to) from → IsMadeFrom f plain code from to t → Is states t
  made-ahead states from to t within leads made =
      let p : ProcNo = made.proc in
      let before : t.state.before ≡ to = ap (λ (s : State). s.before) made.made.state_is in
      let proc : t.state.proc ≡ p = ap (λ (s : State). s.proc) made.made.state_is in
      let is : Tries (scope.begun.items ++ way_to states to) p to t = record {
        from = from;
        after = made.after;
        leads = leads;
        turn = made.made.turn;
        key_is = made.made.key_is;
        state_is = made.made.state_is;
      } in
      record {
        within = subst (λ (n : ℕ). n < length states) (sym before) within;
        is = subst (λ (q : ProcNo). Tries (scope.begun.items ++ way_to states t.state.before) q t.state.before t) (sym proc)
            (subst (λ (n : ℕ). Tries (scope.begun.items ++ way_to states n) p n t) (sym before) is);
      }

  -- a number that the next state has is that of a new one
  fresh-states : (old new : Search) (at next most to : ℕ) (bytes : List ℕ) (s : State) → HasDone f plain code scope old at next
      → (store_of new.store, Some to) ≡ arrived most bytes s (store_of old.store) → to ≡ length (states_of old)
      → states_of new ≡ states_of old ++ s ∷ []
  fresh-states old new at next most to bytes s done is new_one = go (arrival most bytes s (store_of old.store) (store_of new.store) (Some to) is)
    where
      go : IsArrival most bytes s (store_of old.store) (store_of new.store) (Some to) → states_of new ≡ states_of old ++ s ∷ []
      go (inl known) = absurd (
          let kept = done.searching.only bytes known.number known.there in
          let within : known.number < length done.searching.kept = slice_get_within done.searching.kept known.number kept.0 kept.1 in
          let size = done.searching.search.size in
          let same : to ≡ known.number = same_Some to known.number known.to_is in
          omega (arith, within, size, same, new_one)
          )
      go (inr (inl fresh)) = ap (λ (x : StoreView). x.states) fresh.store
      go (inr (inr full)) = absurd (let wrong = full.to_is in cc)

  module _ (old new : Search) (at next : ℕ) (done : HasDone f plain code scope old at next) (within : at < length (states_of old))
      (made : HasMade f plain code scope old new at next) (turns : List ProcNo) (are : turns ≡ turns_to scope old at) where
    -- the turns to it are those to the state before it, and one more
    turns-on : (p : ProcNo) (s : State) → s.before ≡ at → s.proc ≡ p → states_of new ≡ states_of old ++ s ∷ []
        → turns_to scope new (length (states_of old)) ≡ turns ++ p ∷ []
    turns-on p s before proc more =
        let to : ℕ = length (states_of old) in
        let is : slice_get (states_of new) to ≡ Some s = ap (λ (xs : List State). slice_get xs to) more ∙ slice_get-append_seam (states_of old) [] s in
        let way : way_to (states_of new) to ≡ way_to (states_of new) s.before ++ s.proc ∷ [] =
        way-linked (states_of new) to s made.done.searching.search.linked (omega (arith, within)) is in
        ap (λ (ps : List ProcNo). scope.begun.items ++ ps)
        (way ∙ ap (λ (n : ℕ). way_to (states_of new) n ++ s.proc ∷ []) before ∙ ap (λ (q : ProcNo). way_to (states_of new) at ++ q ∷ []) proc)
        ∙ sym (append_assoc scope.begun.items (way_to (states_of new) at) (p ∷ []))
        ∙ ap (λ (ps : List ProcNo). ps ++ p ∷ []) (made.turns ∙ sym are)

    -- what is kept ahead after a turn
    pub kept-ahead : (most to : ℕ) (bytes : List ℕ) (p : ProcNo) (s : State) (run : Option (CoreView U C)) (is_new : Bool) (xs : List Tried)
        → IsTried f plain code scope.workload turns p at bytes s → (store_of new.store, Some to) ≡ arrived most bytes s (store_of old.store)
        → (is_new ≡ true → to ≡ length (states_of old)) → IfSome run (IsRun f scope.workload (turns ++ p ∷ []))
        → Are (states_of new) xs → IsMore f plain code run is_new to xs new.ahead.items → AreAhead f plain code scope new
    kept-ahead most to bytes p s run is_new xs tried is newest runs all (inl same) = subst (Are (states_of new)) (sym same) all
    kept-ahead most to bytes p s run is_new xs tried is newest runs all (inr one) =
        let next_one : to ≡ length (states_of old) = newest one.now in
        let more : states_of new ≡ states_of old ++ s ∷ [] = fresh-states old new at next most to bytes s done is next_one in
        let size : length (states_of new) ≡ length (states_of old) + 1 = ap length more ∙ length-append (states_of old) (s ∷ []) in
        let way : turns_to scope new to ≡ turns ++ p ∷ [] = ap (turns_to scope new) next_one
        ∙ turns-on p s (ap (λ (x : State). x.before) tried.state_is) (ap (λ (x : State). x.proc) tried.state_is) more in
        let run_is : IsRun f scope.workload (turns ++ p ∷ []) one.core =
        subst (λ (o : Option (CoreView U C)). IfSome o (IsRun f scope.workload (turns ++ p ∷ []))) one.is runs in
        let leads : LeadTo f scope.workload (turns_to scope new to) (machine one.core) =
        subst (λ (ps : List ProcNo). LeadTo f scope.workload ps (machine one.core)) (sym way) run_is.leads in
        subst (Are (states_of new)) (sym one.items)
        (All-push (Is (states_of new)) xs one.tried all
        (made-ahead (states_of new) (machine one.core) to one.tried (omega (arith, next_one, size)) leads one.made))
