-- What a turn that is tried adds to a search, and what a search that stopped answers.
use Rattle.std.proofs.Common.{◌≡◌, ℕ, zero, suc, ◌+◌, ◌<◌, ◌≤◌, ◌⊎◌, inl, inr, Bool, true, false, if◌then◌else◌, Option, Some, None, List, [], ◌∷◌, ◌++◌, length, slice_get, refl, sym, ap, subst, ◌∙◌, arith, append_assoc, length-append}
use Rattle.std.proofs.lemmas.Bool.{cases_lt, cond_below, cond_above}
use Rattle.std.proofs.lemmas.Option.{same_Some, slice_get_within}
use Rattle.std.specs.Str.{bytes_eq}
use Rattle.std.specs.Cmp.Lexicographic.{bytes_decides}
use Rattle.sa_lemmas.proofs.ListReads.{read-at}
use Rattle.sa_lemmas.proofs.ListUpdates.{slice_get-append_left, slice_get-append_seam, slice_get-push_cases}
use Rattle.sa_base.specs.declared.number.ProcNo.{ProcNo}
use Rattle.sa_spaces.specs.Space.{SpaceView}
use Rattle.sa_spaces.specs.Workload.{WorkloadView, IsWorkload}
use Rattle.sa_abstract.specs.Calls.{Calls}
use Rattle.sa_abstract.specs.Keeps.{Standing, Keeps}
use Rattle.sa_core_model.specs.Machine.{Machine}
use Rattle.sa_core_model.specs.Run.{opening}
use Rattle.sa_outlook.specs.Outlook.{Outlook, outlook}
use Rattle.sa_outlook.specs.UserLevels.{IgnoresNumbers}
use Rattle.sa_explore_model.specs.declared.answer.State.{State}
use Rattle.sa_explore_model.specs.Search.{way_to, IsSearch}
use Rattle.sa_explore_model.proofs.Ways.{way-push}
use Rattle.sa_explore_model.proofs.Steps.{search-first, search-known, search-new}
use Rattle.sa_states.specs.Store.{StoreView, with_state, arrived_by, arrived}
use Rattle.sa_explore_runs.specs.Runs.{end, IsOpenTurn, LeadTo, IsWay}
use Rattle.sa_explore_runs.specs.Searching.{KeysTell, key_at, IsTried, IsSearching}
use Rattle.sa_explore_runs.proofs.Turns.{turns-one, turns-join, run-of, of-lead, leads-alike}
use Rattle.sa_explore_runs.proofs.Systems.{nil-end}

-- WHAT AN ARRIVAL IS: of a state that is kept, of a new one, or of one for which there is no room.
pub record IsKnown (key : List ℕ) (old new : StoreView) (to : Option ℕ) : Type 0 where
  pub number : ℕ
  pub there : old.number key ≡ Some number
  pub to_is : to ≡ Some number
  pub store : new ≡ old

pub record IsFresh (most : ℕ) (key : List ℕ) (s : State) (old new : StoreView) (to : Option ℕ) : Type 0 where
  pub absent : old.number key ≡ None
  pub room : length old.states < most
  pub to_is : to ≡ Some (length old.states)
  pub store : new ≡ with_state key s old

pub record IsFull (most : ℕ) (old new : StoreView) (to : Option ℕ) : Type 0 where
  pub full : most ≤ length old.states
  pub to_is : to ≡ None
  pub store : new ≡ old

abbrev pub IsArrival : ℕ → List ℕ → State → StoreView → StoreView → Option ℕ → Type 0
IsArrival most key s old new to = IsKnown key old new to ⊎ (IsFresh most key s old new to ⊎ IsFull most old new to)

pub arrival : (most : ℕ) (key : List ℕ) (s : State) (old new : StoreView) (to : Option ℕ) → (new, to) ≡ arrived most key s old
    → IsArrival most key s old new to
arrival most key s old new to is = go (old.number key) refl
  where
    first : (r : StoreView × Option ℕ) → (new, to) ≡ r → new ≡ r.0
    first r same = let of : StoreView × Option ℕ → StoreView = λ z. z.0 in ap of same

    second : (r : StoreView × Option ℕ) → (new, to) ≡ r → to ≡ r.1
    second r same = let of : StoreView × Option ℕ → Option ℕ = λ z. z.1 in ap of same

    by : (o : Option ℕ) → old.number key ≡ o → (new, to) ≡ arrived_by o most key s old
    by o there = is ∙ ap (λ (z : Option ℕ). arrived_by z most key s old) there

    room : old.number key ≡ None → (length old.states < most) ⊎ (most ≤ length old.states) → IsArrival most key s old new to
    room absent (inl below) =
        let same : (new, to) ≡ (with_state key s old, Some (length old.states)) =
        by None absent ∙ sym (cond_below (length old.states) most (with_state key s old, Some (length old.states)) (old, None) below) in
        inr (inl (record { absent = absent; room = below; to_is = second _ same; store = first _ same }))
    room absent (inr above) =
        let same : (new, to) ≡ (old, None) =
        by None absent ∙ sym (cond_above (length old.states) most (with_state key s old, Some (length old.states)) (old, None) (old, None) above refl) in
        inr (inr (record { full = above; to_is = second _ same; store = first _ same }))

    go : (o : Option ℕ) → old.number key ≡ o → IsArrival most key s old new to
    go None absent = room absent (cases_lt (length old.states) most)
    go (Some n) there = inl (record { number = n; there = there; to_is = second _ (by (Some n) there); store = first _ (by (Some n) there) })

bytes-same : (bytes : List ℕ) → bytes_eq bytes bytes ≡ true
bytes-same bytes = (bytes_decides bytes bytes).1 refl

put-same : (bytes other : List ℕ) (s : State) (store : StoreView) → bytes ≡ other → (with_state bytes s store).number other ≡ Some (length store.states)
put-same bytes other s store same =
    let is : bytes_eq bytes other ≡ true = ap (bytes_eq bytes) (sym same) ∙ bytes-same bytes in
    ap (λ (b : Bool). if b then Some (length store.states) else store.number other) is

put-other : (bytes other : List ℕ) (s : State) (store : StoreView) → bytes_eq bytes other ≡ false
    → (with_state bytes s store).number other ≡ store.number other
put-other bytes other s store apart = ap (λ (b : Bool). if b then Some (length store.states) else store.number other) apart

cases_bytes : (bytes other : List ℕ) → (bytes ≡ other) ⊎ (bytes_eq bytes other ≡ false)
cases_bytes bytes other = go (bytes_eq bytes other) refl
  where
    go : (b : Bool) → bytes_eq bytes other ≡ b → (bytes ≡ other) ⊎ (bytes_eq bytes other ≡ false)
    go true same = inl ((bytes_decides bytes other).0 same)
    go false apart = inr apart

module _ {U C D : Type 0} (f : Calls U C) (plain : Option SpaceView → C → D) (IsMade : Option SpaceView → U → Type 0) (laws : IgnoresNumbers f plain IsMade)
    (stands : Standing U C) (keep : Keeps f stands) (code : Outlook U D → List ℕ) (tell : KeysTell f plain code)
    (w : WorkloadView) (ok : IsWorkload w) (begun : List ProcNo) where
  abbrev Searching : StoreView → List ℕ → ℕ → ℕ → Type 0
  Searching store nexts at next = IsSearching f plain code w begun store nexts at next

  abbrev key : Machine U C → List ℕ
  key m = key_at f plain code w m

  -- THE FIRST STATE
  pub searching-first : (m : Machine U C) (s : State) (store empty : StoreView) (bytes : List ℕ) (to : Option ℕ) → LeadTo f w begun m → s.end ≡ end f m
      → bytes ≡ key m → empty.states ≡ [] → ((b : List ℕ) → empty.number b ≡ None) → (store, to) ≡ arrived 1 bytes s empty
      → Searching store [] 0 0 × (length store.states ≡ 1)
  searching-first m s store empty bytes to lead ends bytes_is none absent is = go (arrival 1 bytes s empty store to is)
    where
      size : length empty.states ≡ 0
      size = ap length none

      only-one : (k : ℕ) (n : Machine U C) → slice_get (m ∷ []) k ≡ Some n → (with_state bytes s empty).number (key n) ≡ Some k
      only-one zero n is_n = put-same bytes (key n) s empty (bytes_is ∙ ap key (same_Some m n is_n)) ∙ ap (λ (k : ℕ). Some k) size
      only-one (suc k) n is_n = absurd (let within = slice_get_within (m ∷ []) (suc k) n is_n in omega arith)

      one-only : (b : List ℕ) (n : ℕ) → (with_state bytes s empty).number b ≡ Some n
          → (o : Machine U C) × (slice_get (m ∷ []) n ≡ Some o) × (key o ≡ b)
      one-only b n there =
          elim (cases_bytes bytes b) [
            | inl same ↦ (let is_n : 0 ≡ n = sym size ∙ same_Some (length empty.states) n (sym (put-same bytes b s empty same) ∙ there) in
                (m, ap (slice_get (m ∷ [])) (sym is_n), sym bytes_is ∙ same))
            | inr apart ↦ absurd (let no_number : None ≡ Some n = sym (absent b) ∙ sym (put-other bytes b s empty apart) ∙ there in cc)
          ]

      here : (x : StoreView) → x ≡ with_state bytes s empty → Searching x [] 0 0 × (length x.states ≡ 1)
      here x same =
          let states : x.states ≡ s ∷ [] = ap (λ (z : StoreView). z.states) same ∙ ap (λ (xs : List State). xs ++ s ∷ []) none in
          let number : x.number ≡ (with_state bytes s empty).number = ap (λ (z : StoreView). z.number) same in (
            record {
              kept = m ∷ [];
              search = subst (λ (xs : List State). IsSearch (outlook plain) (end f) (IsWay f w begun) (IsOpenTurn f) w.processors xs (m ∷ []) [] 0 0) (sym states)
                  (search-first (outlook plain) (end f) (IsWay f w begun) (IsOpenTurn f) w.processors s m
                  (subst (λ (ps : List ProcNo). LeadTo f w ps m) (sym (nil-end begun)) lead) ends);
              numbered = λ k n is_n. ap (λ (g : List ℕ → Option ℕ). g (key n)) number ∙ only-one k n is_n;
              only = λ b n there. one-only b n (sym (ap (λ (g : List ℕ → Option ℕ). g b) number) ∙ there);
            },
            ap length states,
          )

      go : IsArrival 1 bytes s empty store to → Searching store [] 0 0 × (length store.states ≡ 1)
      go (inl known) = absurd (let no_number : None ≡ Some known.number = sym (absent bytes) ∙ known.there in cc)
      go (inr (inl fresh)) = here store fresh.store
      go (inr (inr full)) = absurd (let many = full.full in omega (arith, size, many))

  -- A TURN. The store has grown, or is as before, and the turn was made.
  pub record IsStepped (old new : StoreView) (nexts : List ℕ) (most at next : ℕ) : Type 0 where
    pub searching : Searching new nexts at (next + 1)
    pub room : length new.states ≤ most
    pub within : at < length new.states
    pub way : way_to new.states at ≡ way_to old.states at
    pub state : slice_get new.states at ≡ slice_get old.states at

  module _ (old new : StoreView) (nexts : List ℕ) (at next most : ℕ) (was : Searching old nexts at next) (few : next < w.processors)
      (within : at < length old.states) (room : length old.states ≤ most) (turns : List ProcNo) (turns_are : turns ≡ begun ++ way_to old.states at)
      (bytes : List ℕ) (s : State) (tried : IsTried f plain code w turns (record { 0 = next }) at bytes s) where
    here : (m : Machine U C) × (slice_get was.kept at ≡ Some m)
    here = let size = was.search.size in read-at was.kept at (omega arith)

    from-way : IsWay f w begun (way_to old.states at) tried.from
    from-way = subst (λ (ps : List ProcNo). LeadTo f w ps tried.from) turns_are tried.leads

    from-here : outlook plain tried.from ≡ outlook plain here.0
    from-here =
        leads-alike f plain IsMade laws stands keep w ok (begun ++ way_to old.states at) tried.from here.0 from-way (was.search.reached at here.0 here.1)

    after-way : LeadTo f w ((begun ++ way_to old.states at) ++ record { 0 = next } ∷ []) tried.after
    after-way = turns-join f (begun ++ way_to old.states at) (record { 0 = next } ∷ []) (opening f w) tried.from tried.after from-way
        (turns-one f tried.from tried.after (record { 0 = next }) tried.turn)

    workload-of : (ps : List ProcNo) (m : Machine U C) → LeadTo f w ps m → m.workload ≡ w
    workload-of ps m lead = (of-lead f plain IsMade laws stands keep w ok ps m lead).workload

    -- machines of one key have one outlook
    same-key : (ps qs : List ProcNo) (m n : Machine U C) → LeadTo f w ps m → LeadTo f w qs n → key m ≡ key n → outlook plain m ≡ outlook plain n
    same-key ps qs m n first second same =
        tell m n (run-of f w ok ps m first) (run-of f w ok qs n second) (workload-of ps m first ∙ sym (workload-of qs n second)) same

    pub stepped-known : (to : ℕ) → old.number bytes ≡ Some to → new ≡ old → IsStepped old new (nexts ++ to ∷ []) most at next
    stepped-known to there same =
        let target = was.only bytes to there in
        let looks : outlook plain target.0 ≡ outlook plain tried.after =
        same-key (begun ++ way_to old.states to) ((begun ++ way_to old.states at) ++ record { 0 = next } ∷ []) target.0 tried.after
        (was.search.reached to target.0 target.1) after-way (target.2 ∙ tried.key_is) in
        subst (λ (x : StoreView). IsStepped old x (nexts ++ to ∷ []) most at next) (sym same) (record {
          searching = record {
            kept = was.kept;
            search = search-known (outlook plain) (end f) (IsWay f w begun) (IsOpenTurn f) w.processors old.states was.kept nexts at next was.search
                tried.from tried.after target.0 here.0 to few here.1 from-way from-here tried.turn target.1 looks;
            numbered = was.numbered;
            only = was.only;
          };
          room = room;
          within = within;
          way = refl;
          state = refl;
        })

    pub stepped-fresh : old.number bytes ≡ None → length old.states < most → new ≡ with_state bytes s old
        → IsStepped old new (nexts ++ length old.states ∷ []) most at next
    stepped-fresh absent below same =
        let size : length was.kept ≡ length old.states = was.search.size in
        subst (λ (x : StoreView). IsStepped old x (nexts ++ length old.states ∷ []) most at next) (sym same) (record {
          searching = record {
            kept = was.kept ++ tried.after ∷ [];
            search = search-new (outlook plain) (end f) (IsWay f w begun) (IsOpenTurn f) w.processors old.states was.kept nexts at next was.search
                tried.from tried.after here.0 s few here.1 from-way from-here tried.turn
                (subst (λ (ps : List ProcNo). LeadTo f w ps tried.after) (append_assoc begun (way_to old.states at) (record { 0 = next } ∷ [])) after-way)
                (ap (λ (t : State). t.before) tried.state_is) (ap (λ (t : State). t.proc.0) tried.state_is) (ap (λ (t : State). t.end) tried.state_is) new-look;
            numbered = λ k m is. numbered k m (slice_get-push_cases was.kept k tried.after m is);
            only = only;
          };
          room = (let more = length-append old.states (s ∷ []) in omega arith);
          within = (let more = length-append old.states (s ∷ []) in omega arith);
          way = way-push old.states (s ∷ []) at was.search.linked within;
          state = slice_get-append_left old.states (s ∷ []) at within;
        })
      where
        new-look : (k : ℕ) (m : Machine U C) → slice_get was.kept k ≡ Some m → outlook plain m ≡ outlook plain tried.after → ⊥
        new-look k m is looks =
            let same_code : key m ≡ bytes = ap code looks ∙ sym tried.key_is in
            let found : None ≡ Some k = sym absent ∙ ap old.number (sym same_code) ∙ was.numbered k m is in
            cc

        numbered : (k : ℕ) (m : Machine U C) → ((k ≡ length was.kept) × (m ≡ tried.after)) ⊎ (slice_get was.kept k ≡ Some m)
            → (with_state bytes s old).number (key m) ≡ Some k
        numbered k m (inl one) =
            put-same bytes (key m) s old (tried.key_is ∙ ap key (sym one.1)) ∙ ap (λ (n : ℕ). Some n) (sym (one.0 ∙ was.search.size))
        numbered k m (inr is) =
            elim (cases_bytes bytes (key m)) [
              | inl one ↦ absurd (let found : None ≡ Some k = sym absent ∙ ap old.number one ∙ was.numbered k m is in cc)
              | inr apart ↦ put-other bytes (key m) s old apart ∙ was.numbered k m is
            ]

        only : (b : List ℕ) (n : ℕ) → (with_state bytes s old).number b ≡ Some n
            → (m : Machine U C) × (slice_get (was.kept ++ tried.after ∷ []) n ≡ Some m) × (key m ≡ b)
        only b n there =
            elim (cases_bytes bytes b) [
              | inl one ↦ (let is_n : length old.states ≡ n = same_Some (length old.states) n (sym (put-same bytes b s old one) ∙ there) in (
                tried.after,
                ap (slice_get (was.kept ++ tried.after ∷ [])) (sym is_n ∙ sym was.search.size) ∙ slice_get-append_seam was.kept [] tried.after,
                sym tried.key_is ∙ one,
              ))
              | inr apart ↦ (let old_one = was.only b n (sym (put-other bytes b s old apart) ∙ there) in (
                old_one.0,
                slice_get-append_left was.kept (tried.after ∷ []) n (slice_get_within was.kept n old_one.0 old_one.1) ∙ old_one.1,
                old_one.2,
              ))
            ]

    -- the turn of the code
    pub stepped-some : (to : ℕ) → (new, Some to) ≡ arrived most bytes s old → IsStepped old new (nexts ++ to ∷ []) most at next
    stepped-some to is = go (arrival most bytes s old new (Some to) is)
      where
        go : IsArrival most bytes s old new (Some to) → IsStepped old new (nexts ++ to ∷ []) most at next
        go (inl known) =
            stepped-known to (known.there ∙ sym known.to_is) known.store
        go (inr (inl fresh)) =
            subst (λ (n : ℕ). IsStepped old new (nexts ++ n ∷ []) most at next) (sym (same_Some to (length old.states) fresh.to_is))
            (stepped-fresh fresh.absent fresh.room fresh.store)
        go (inr (inr full)) = absurd (let wrong = full.to_is in cc)

    pub stepped-none : (new, None) ≡ arrived most bytes s old → (new ≡ old) × (length old.states ≡ most)
    stepped-none is = go (arrival most bytes s old new None is)
      where
        go : IsArrival most bytes s old new None → (new ≡ old) × (length old.states ≡ most)
        go (inl known) = absurd (let wrong = known.to_is in cc)
        go (inr (inl fresh)) = absurd (let wrong = fresh.to_is in cc)
        go (inr (inr full)) = (full.store, (let many = full.full in omega arith))
