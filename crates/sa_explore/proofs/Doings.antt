-- What the states of a search say of the runs to them, and what a turn more comes to.
use Rattle.std.proofs.Common.{◌≡◌, ℕ, zero, suc, ◌+◌, ◌<◌, ◌≤◌, inl, Option, Some, None, IsSome, List, [], ◌∷◌, ◌++◌, length, slice_get, refl, sym, ap, subst, ◌∙◌, arith, append_assoc, length-append}
use Rattle.std.proofs.lemmas.Option.{slice_get_within}
use Rattle.sa_lemmas.proofs.ListReads.{read-at}
use Rattle.sa_base.specs.declared.number.ProcNo.{ProcNo}
use Rattle.sa_base.specs.declared.record.End.{End}
use Rattle.sa_base.specs.declared.limits.TheConstants.{MAX_EVENTS}
use Rattle.sa_spaces.specs.Space.{SpaceView}
use Rattle.sa_spaces.specs.Workload.{WorkloadView, IsWorkload}
use Rattle.sa_abstract.specs.Calls.{Calls}
use Rattle.sa_abstract.specs.Keeps.{Standing, Keeps}
use Rattle.sa_core_model.specs.Machine.{Machine}
use Rattle.sa_outlook.specs.Outlook.{Outlook, outlook}
use Rattle.sa_outlook.specs.UserLevels.{IgnoresNumbers}
use Rattle.sa_explore_model.specs.declared.answer.State.{State}
use Rattle.sa_explore_model.specs.Search.{way_on, way_by, way_to, IsSearch}
use Rattle.sa_explore_model.proofs.Steps.{search-over, search-next}
use Rattle.sa_states.specs.Store.{StoreView, store_of, arrived_by, arrived}
use Rattle.sa_explore_runs.specs.Runs.{end, IsOpenTurn, LeadTo, IsWay, CanLead, IsOpen}
use Rattle.sa_explore_runs.specs.Searching.{KeysTell, key_at, IsTried, IsSearching}
use Rattle.sa_explore_runs.proofs.Schedules.{few-turns}
use Rattle.sa_explore_runs.proofs.Searched.{searching-first, IsStepped, stepped-some, stepped-none}
use Rattle.sa_explore.specs.Explored.{IsBeyond}
use Rattle.sa_explore.specs.Doing.{states_of, turns_to, HasDone, IsSpent, HasMade}
use Rattle.sa_explore.specs.declared.search.Scope.{Scope}
use Rattle.sa_explore.specs.declared.search.Search.{Search}
use Rattle.sa_explore.proofs.Replays.{one-more, open-all}

-- a way is no longer than the number of its state
on-short : (n : ℕ) (way : ℕ → List ProcNo) (o : Option State) → ((j : ℕ) → length (way j) ≤ n) → length (way_on way o) ≤ suc n
on-short n way None short = omega arith
on-short n way (Some s) short = let more = length-append (way s.before) (s.proc ∷ []) in let most = short s.before in omega (arith, more, most)

way-short : (n : ℕ) (states : List State) (k : ℕ) → length (way_by n states k) ≤ n
way-short zero states k = omega arith
way-short (suc n) states zero = omega arith
way-short (suc n) states (suc k) =
    on-short n (λ j. way_by n states j) (slice_get states (suc k)) (λ j. way-short n states j)

pub short-way : (states : List State) (k : ℕ) → length (way_to states k) ≤ k
short-way states k = way-short k states k

-- an arrival for which there is no room is of a key that has no number
pub none-there : (most : ℕ) (key : List ℕ) (s : State) (old new : StoreView) → (new, None) ≡ arrived most key s old → old.number key ≡ None
none-there most key s old new is = go (old.number key) refl
  where
    go : (o : Option ℕ) → old.number key ≡ o → o ≡ None
    go None there = refl
    go (Some n) there = absurd (
        let same : (new, None) ≡ arrived_by (Some n) most key s old = is ∙ ap (λ (o : Option ℕ). arrived_by o most key s old) there in
        let of : StoreView × Option ℕ → Option ℕ = λ z. z.1 in
        let wrong : None ≡ Some n = ap of same in
        cc
        )

not-some : (o : Option End) → o ≡ None → IsSome o → ⊥
not-some None none some = cc
not-some (Some e) none some = cc

module _ {U C D : Type 0} (f : Calls U C) (plain : Option SpaceView → C → D) (IsMade : Option SpaceView → U → Type 0) (laws : IgnoresNumbers f plain IsMade)
    (stands : Standing U C) (keep : Keeps f stands) (code : Outlook U D → List ℕ) (w : WorkloadView) (ok : IsWorkload w) (begun : List ProcNo) where
  abbrev Searching : StoreView → List ℕ → ℕ → ℕ → Type 0
  Searching store nexts at next = IsSearching f plain code w begun store nexts at next

  module _ (store : StoreView) (nexts : List ℕ) (at next : ℕ) (searching : Searching store nexts at next) where
    -- THE RUNS TO A STATE
    machine-at : (k : ℕ) → k < length store.states → (m : Machine U C) × (slice_get searching.kept k ≡ Some m)
    machine-at k within = let size = searching.search.size in read-at searching.kept k (omega arith)

    pub way-leads : (k : ℕ) → k < length store.states → CanLead f w (begun ++ way_to store.states k)
    way-leads k within = let m = machine-at k within in (m.0, searching.search.reached k m.0 m.1)

    pub way-open : (k : ℕ) (s : State) → slice_get store.states k ≡ Some s → s.end ≡ None → IsOpen f w (begun ++ way_to store.states k)
    way-open k s is goes =
        let m = machine-at k (slice_get_within store.states k s is) in
        open-all f plain IsMade laws stands keep w ok (begun ++ way_to store.states k) m.0 (searching.search.reached k m.0 m.1)
        (sym (searching.search.ends k m.0 s m.1 is) ∙ goes)

    pub way-few : (k : ℕ) → k < length store.states → length (begun ++ way_to store.states k) ≤ MAX_EVENTS
    way-few k within =
        let can = way-leads k within in
        few-turns f plain IsMade laws stands keep w ok (begun ++ way_to store.states k) can.0 can.1

    -- A STATE THAT HAS AN END is passed over
    pub passed-one : (s : State) → slice_get store.states at ≡ Some s → IsSome s.end → next < w.processors
        → Searching store (nexts ++ 0 ∷ []) at (next + 1)
    passed-one s is over few =
        let m = machine-at at (slice_get_within store.states at s is) in
        record {
          kept = searching.kept;
          search = search-over (outlook plain) (end f) (IsWay f w begun) (IsOpenTurn f) w.processors store.states searching.kept nexts at next
              searching.search m.0 0 searching.search.some few m.1
              (λ goes. (let none : s.end ≡ None = searching.search.ends at m.0 s m.1 is ∙ goes in not-some s.end none over));
          numbered = searching.numbered;
          only = searching.only;
        }

    -- THE NEXT STATE
    pub next-state : next ≡ w.processors → Searching store nexts (at + 1) 0
    next-state all = record {
      kept = searching.kept;
      search = search-next (outlook plain) (end f) (IsWay f w begun) (IsOpenTurn f) w.processors store.states searching.kept nexts at next
          searching.search all;
      numbered = searching.numbered;
      only = searching.only;
    }

    -- WHERE A TURN LED TO CANNOT BE KEPT
    pub beyond-by : (most : ℕ) (turns : List ProcNo) (p : ProcNo) (bytes : List ℕ) (s : State) (new : StoreView)
        → turns ≡ begun ++ way_to store.states at → IsTried f plain code w turns p at bytes s → (new, None) ≡ arrived most bytes s store
        → IsBeyond f plain w begun searching.kept (length (way_to store.states at))
    beyond-by most turns p bytes s new are tried full = record {
      turns = way_to store.states at ++ p ∷ [];
      machine = tried.after;
      way = subst (λ (ps : List ProcNo). LeadTo f w ps tried.after)
          (ap (λ (ps : List ProcNo). ps ++ p ∷ []) are ∙ append_assoc begun (way_to store.states at) (p ∷ []))
          (one-more f w turns tried.from tried.after p tried.leads tried.turn);
      long = length-append (way_to store.states at) (p ∷ []);
      new = λ kept. (
          let there : store.number (key_at f plain code w kept.machine) ≡ Some kept.place = searching.numbered kept.place kept.machine kept.is in
          let key : key_at f plain code w kept.machine ≡ bytes = ap code kept.looks ∙ sym tried.key_is in
          let none : store.number bytes ≡ None = none-there most bytes s store new full in
          let wrong : Some kept.place ≡ None = sym there ∙ ap store.number key ∙ none in
          cc
          );
    }

    -- the same store and turns
    abbrev Keeps_on : List State → List ℕ → Type 0
    Keeps_on states ns = IsSearch (outlook plain) (end f) (IsWay f w begun) (IsOpenTurn f) w.processors states searching.kept ns at next

    abbrev pub searching-again : (new : StoreView) (more : List ℕ) → new ≡ store → more ≡ nexts → Searching new more at next
    searching-again new more same nexts_same = record {
      kept = searching.kept;
      search = subst (λ (ns : List ℕ). Keeps_on new.states ns) (sym nexts_same)
          (subst (λ (x : StoreView). Keeps_on x.states nexts) (sym same) searching.search);
      numbered = λ k m is. ap (λ (x : StoreView). x.number (key_at f plain code w m)) same ∙ searching.numbered k m is;
      only = λ bytes n there. searching.only bytes n (sym (ap (λ (x : StoreView). x.number bytes) same) ∙ there);
    }

-- IN CODE
module _ {U C D : Type 0} (f : Calls U C) (plain : Option SpaceView → C → D) (IsMade : Option SpaceView → U → Type 0) (laws : IgnoresNumbers f plain IsMade)
    (stands : Standing U C) (keep : Keeps f stands) (code : Outlook U D → List ℕ) (scope : Scope)
    (ok : IsWorkload scope.workload) where
  abbrev Done : Search → ℕ → ℕ → Type 0
  Done search at next = HasDone f plain code scope search at next

  -- A STATE THAT HAS AN END
  pub passed-again : (old new : Search) (at next : ℕ) (s : State) → Done old at next → slice_get (states_of old) at ≡ Some s → IsSome s.end
      → next < scope.workload.processors → store_of new.store ≡ store_of old.store → new.nexts.items ≡ old.nexts.items ++ 0 ∷ []
      → Done new at (next + 1)
  passed-again old new at next s done is over few same nexts =
      let size : length (states_of new) ≡ length (states_of old) = ap (λ (x : StoreView). length x.states) same in
      let room = done.room in
      record {
        searching = searching-again f plain IsMade laws stands keep code scope.workload ok scope.begun.items (store_of old.store)
            (old.nexts.items ++ 0 ∷ []) at (next + 1)
            (passed-one f plain IsMade laws stands keep code scope.workload ok scope.begun.items (store_of old.store) old.nexts.items at next
            done.searching s is over few)
            (store_of new.store) new.nexts.items same nexts;
        room = omega (arith, size, room);
      }

  -- ALL TURNS FROM A STATE
  pub all-made : (search : Search) (at next : ℕ) → Done search at next → next ≡ scope.workload.processors → Done search (at + 1) 0
  all-made search at next done all = record {
    searching = next-state f plain IsMade laws stands keep code scope.workload ok scope.begun.items (store_of search.store) search.nexts.items at next
        done.searching all;
    room = done.room;
  }

module _ {U C D : Type 0} (f : Calls U C) (plain : Option SpaceView → C → D) (IsMade : Option SpaceView → U → Type 0) (laws : IgnoresNumbers f plain IsMade)
    (stands : Standing U C) (keep : Keeps f stands) (code : Outlook U D → List ℕ) (tell : KeysTell f plain code) (scope : Scope)
    (ok : IsWorkload scope.workload) where
  abbrev Has : Search → ℕ → ℕ → Type 0
  Has search at next = HasDone f plain code scope search at next

  pub done-first : (search : Search) (m : Machine U C) (s : State) (empty : StoreView) (bytes : List ℕ) (to : Option ℕ) → 1 ≤ scope.most
      → LeadTo f scope.workload scope.begun.items m → s.end ≡ end f m → bytes ≡ code (outlook plain m) → empty.states ≡ []
      → ((b : List ℕ) → empty.number b ≡ None) → (store_of search.store, to) ≡ arrived 1 bytes s empty → search.nexts.items ≡ [] → Has search 0 0
  done-first search m s empty bytes to some lead ends bytes_is none absent is nexts =
      let first = searching-first f plain IsMade laws stands keep code tell scope.workload ok scope.begun.items m s (store_of search.store) empty bytes to
      lead ends bytes_is none absent is in
      let size = first.1 in
      record {
        searching = subst (λ (ns : List ℕ). IsSearching f plain code scope.workload scope.begun.items (store_of search.store) ns 0 0) (sym nexts) first.0;
        room = omega (arith, size, some);
      }

  module _ (old new : Search) (at next : ℕ) (done : Has old at next) (few : next < scope.workload.processors) (within : at < length (states_of old)) where
    pub made-some : (turns : List ProcNo) (bytes : List ℕ) (s : State) (to : ℕ) → turns ≡ turns_to scope old at
        → IsTried f plain code scope.workload turns (record { 0 = next }) at bytes s
        → (store_of new.store, Some to) ≡ arrived scope.most bytes s (store_of old.store) → new.nexts.items ≡ old.nexts.items ++ to ∷ []
        → HasMade f plain code scope old new at next
    made-some turns bytes s to are tried is nexts =
        let step : IsStepped f plain IsMade laws stands keep code tell scope.workload ok scope.begun.items (store_of old.store) (store_of new.store)
        (old.nexts.items ++ to ∷ []) scope.most at next =
        stepped-some f plain IsMade laws stands keep code tell scope.workload ok scope.begun.items (store_of old.store) (store_of new.store)
        old.nexts.items at next scope.most done.searching few within done.room turns are bytes s tried to is in
        record {
          done = record {
            searching = subst (λ (ns : List ℕ). IsSearching f plain code scope.workload scope.begun.items (store_of new.store) ns at (next + 1)) (sym nexts)
                step.searching;
            room = step.room;
          };
          within = step.within;
          turns = ap (λ (ps : List ProcNo). scope.begun.items ++ ps) step.way;
          state = step.state;
        }

    pub made-none : (turns : List ProcNo) (bytes : List ℕ) (s : State) → turns ≡ turns_to scope old at
        → IsTried f plain code scope.workload turns (record { 0 = next }) at bytes s
        → (store_of new.store, None) ≡ arrived scope.most bytes s (store_of old.store) → new.nexts.items ≡ old.nexts.items
        → IsSpent f plain code scope new at
    made-none turns bytes s are tried is nexts =
        let both = stepped-none f plain IsMade laws stands keep code tell scope.workload ok scope.begun.items (store_of old.store) (store_of new.store)
        old.nexts.items at next scope.most done.searching few within done.room turns are bytes s tried is in
        let same : states_of new ≡ states_of old = ap (λ (x : StoreView). x.states) both.0 in
        let size : length (states_of new) ≡ length (states_of old) = ap length same in
        let full = both.1 in
        let room = done.room in
        record {
          next = next;
          some = few;
          done = record {
            searching = searching-again f plain IsMade laws stands keep code scope.workload ok scope.begun.items (store_of old.store) old.nexts.items at next
                done.searching (store_of new.store) new.nexts.items both.0 nexts;
            room = omega (arith, size, room);
          };
          within = omega (arith, size, within);
          spent = inl (record {
            room = size ∙ full;
            beyond = subst (λ (x : StoreView). IsBeyond f plain scope.workload scope.begun.items done.searching.kept (length (way_to x.states at)))
                (sym both.0)
                (beyond-by f plain IsMade laws stands keep code scope.workload ok scope.begun.items (store_of old.store) old.nexts.items at next done.searching
                scope.most turns (record { 0 = next }) bytes s (store_of new.store) are tried is);
          });
        }
