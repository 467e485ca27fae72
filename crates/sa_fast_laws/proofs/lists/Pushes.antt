-- A push makes a thread ready that the context has beside its own.
use Rattle.std.proofs.Common.{length-set, ◌≡◌, ◌≢◌, ℕ, ◌+◌, ◌≤◌, ◌<◌, true, false, ◌||◌, List, [], ◌∷◌, ◌++◌, map, length, reverse, Option, Some, None, nat_le, slice_get, refl, sym, ap, ◌∙◌, subst, inl, inr, arith, append-nil}
use Rattle.std.proofs.lemmas.Bool.{cases_eq, cases_lt}
use Rattle.std.proofs.lemmas.List.{get_or-set_same}
use Rattle.sa_base.specs.declared.limits.TheConstants.{PACKAGE_PAGE}
use Rattle.sa_base.specs.declared.number.ActNo.{ActNo}
use Rattle.sa_base.specs.declared.number.ProcNo.{ProcNo}
use Rattle.sa_base.specs.declared.number.SpaceNo.{SpaceNo}
use Rattle.sa_base.specs.declared.number.ThreadNo.{ThreadNo}
use Rattle.sa_base.specs.declared.record.Record.TheVariants.{Ready as ReadyRecord}
use Rattle.sa_lemmas.specs.Function.{put}
use Rattle.sa_spaces.specs.Workload.{WorkloadView}
use Rattle.sa_links.specs.Lists.{count_in}
use Rattle.sa_lists.proofs.Changes.{inserted_front, list_of-with_list_same, list_of-with_list_other}
use Rattle.sa_lists.specs.ReadyView.{inserted, list_of}
use Rattle.sa_lists.specs.ReadyView as ready
use Rattle.sa_code.specs.Micro.{pushed, list_in}
use Rattle.sa_code.specs.declared.code.Op.TheVariants.{Push}
use Rattle.sa_code.specs.declared.state.Frame.{Frame}
use Rattle.sa_copies.specs.Copies.{package_ops, copy_at}
use Rattle.sa_fast.proofs.WorkSteps.{one_same, one_other}
use Rattle.sa_fast.specs.Rest.{one_if, one_of, one_where, place_at}
use Rattle.sa_fast.specs.Threads.{is_loaded}
use Rattle.sa_fast.specs.Work.{work_of}
use Rattle.sa_fast.specs.declared.shared.Shared.{Shared}
use Rattle.sa_fast.specs.declared.threads.Block.{Block}
use Rattle.sa_fast.specs.declared.threads.KeptPlace.TheVariants as kept
use Rattle.sa_abstract.specs.Calls.{Contexts}
use Rattle.sa_abstract.specs.Setting.{Setting}
use Rattle.sa_package_model.proofs.Holding.{thread_once}
use Rattle.sa_package_model.specs.Context.{section_in, at_copy}
use Rattle.sa_package_model.specs.Hands.{threads_in, threads_of}
use Rattle.sa_package_model.specs.Rules.{placed, with_shared, load}
use Rattle.sa_package_model.specs.Stands.{IsStanding}
use Rattle.sa_package_model.specs.declared.context.Context.{Context}
use Rattle.sa_package_model.specs.declared.context.ContextState.TheVariants.{Code}
use Rattle.sa_package_model.specs.declared.package.Package.{Package}
use Rattle.sa_laws.specs.Life.{Life, Lock, first_lock, change_first, readied}
use Rattle.sa_laws.specs.Locks.{CanReady, WithFirst, KeepsLocks}
use Rattle.sa_laws.specs.Readings.{Readings, Listed, running_of, life_of, life_on, life_if, ready_of, is_resident, load_of}
use Rattle.sa_laws.specs.Record.{after_record, made_ready, list_of as listed_of, first_list}
use Rattle.sa_laws.specs.State.{Thread, space_at, thread_in, is_active, active_threads, owner_at, put_thread}
use Rattle.sa_laws.specs.Step.{Needs}
use Rattle.sa_laws.specs.declared.place.Place.TheVariants as place
use Rattle.sa_fast_laws.proofs.relation.Hands.{split, held-without, held-others, held_contains}
use Rattle.sa_fast_laws.proofs.relation.InCode.{push_at, pushed_none, section-room}
use Rattle.sa_fast_laws.proofs.relation.OneLife.{IsHeld, carried_one}
use Rattle.sa_fast_laws.proofs.relation.Places.{space-here, thread-there, active-with, block-there, loaded-placed, fits-placed, life-changed, same-threads, load-moves}
use Rattle.sa_fast_laws.proofs.relation.ReadyOrders.{numbers-append, numbers-here, numbers-there, reverse-cons}
use Rattle.sa_fast_laws.proofs.relation.ThreadsBeside.{beside_made, beside_below, beside_unloaded, beside_ready, beside_counts, beside_inactive, beside_free, life-here}
use Rattle.sa_fast_laws.specs.FastFits.{FitsShared, FitsLists, numbers_in, Holds}
use Rattle.sa_fast_laws.specs.Life.{stopped_in, lock_of, locks_from, locks_had, pushed_in, beside, carried, count_if, held, HasHand, HasLife}
use Rattle.sa_fast_laws.specs.Stage.{stage_of, is_gone}
use Rattle.sa_fast_laws.specs.View.{view}

-- THE EFFECT OF A PUSH
module _ (set : Setting) (e : ℕ) (u : Package) (cs : Contexts Context) (h : IsStanding set e u cs) (s : SpaceNo) (r : Readings) (k : Holds s r u cs)
    (a : ActNo) (f : Frame) (fs : List Frame) (wk : Option ThreadNo) (is : cs a.0 ≡ Some (record { state = Code f; sections = fs; work = wk }))
    (w : WorkloadView) (number : ℕ) (p : ProcNo) (life : Life) (runs : running_of r p ≡ Some a) (there : life_of r a ≡ Some life)
    (known : s.0 < length r.state.spaces) (named : s.0 < length r.ready)
    (kk : ℕ) (copy : copy_at f.pc ≡ Some kk) (op : slice_get package_ops f.pc ≡ Some Push) (t : ThreadNo) (pushes : f.pushed ≡ Some t) where
  abbrev c : Context
  c = record { state = Code f; sections = fs; work = wk }

  abbrev g : Frame
  g = record f { pc = f.pc + 1; pushed = None }

  abbrev new : Context
  new = record { state = Code g; sections = fs; work = wk }

  abbrev made : Shared
  made = placed (record u.shared { state = (pushed u.shared.state f true (list_in f) (Some t)).state }) (Some t) kept.Ready

  abbrev v : Package
  v = with_shared u made

  abbrev q : Readings
  q = after_record w number p r (ReadyRecord s t)

  l : HasLife s u.shared (space_at r.state s) (stage_of r s a life) (view c) life
  l = life-here s r u cs k a c life is there

  section : section_in c.state ≡ Some (record f { pc = kk })
  section = ap (at_copy f) copy

  pushed_old : (n : ℕ) → pushed_in (section_in c.state) n ≡ one_if t.0 n
  pushed_old n = ap (λ o. pushed_in o n) section ∙ ap (λ o. one_of o n) pushes

  pushed_new : (n : ℕ) → pushed_in (section_in new.state) n ≡ 0
  pushed_new n = pushed_none g (copy_at (f.pc + 1)) n refl

  beside_less : (n : ℕ) → beside u.shared.works (view c) n ≡ beside u.shared.works (view new) n + one_if t.0 n
  beside_less n = let old = pushed_old n in let now = pushed_new n in omega arith

  loose : 1 ≤ pushed_in (section_in c.state) t.0 + count_in t.0 (work_of u.shared.works wk)
  loose = let old = pushed_old t.0 in let one = one_same t.0 t.0 refl in omega arith

  has : 1 ≤ beside u.shared.works (view c) t.0
  has = let some = loose in omega arith

  once : beside u.shared.works (view c) t.0 + carried (view c) t.0 ≤ 1
  once = let all = split u.shared.works c t.0 in let one = thread_once set e u cs h a.0 c is t.0 in omega arith

  copies_same : nat_le 8 (f.pc + 1) ≡ nat_le 8 f.pc
  copies_same = push_at (λ i j. nat_le 8 (i + 1) ≡ nat_le 8 i) refl refl f.pc kk copy op

  -- its lock
  abbrev lock : Lock
  lock = lock_of (nat_le 8 f.pc) (record f { pc = kk })

  locks_are : life.locks ≡ lock_of (nat_le 8 f.pc) (record f { pc = kk }) ∷ map (lock_of true) fs
  locks_are = l.locks ∙ ap (λ o. locks_from (nat_le 8 f.pc) o fs) section

  locks_used : change_first readied life.locks ≡ locks_had (view new)
  locks_used =
      ap (change_first readied) locks_are
      ∙ push_at
      (λ i j. change_first readied (locks_from (nat_le 8 i) (Some (record f { pc = j })) fs) ≡ locks_from (nat_le 8 (i + 1))
      (at_copy (record f { pc = i + 1; pushed = None }) (copy_at (i + 1))) fs)
      refl refl f.pc kk copy op

  hand : HasHand made.works (view new) (is_gone (stage_of r s a life)) (made_ready t life).hand
  hand = record {
    all = λ n some. elim (cases_eq n t.0) [
      | inl same ↦
          absurd
          (let less = beside_less t.0 in let one = one_same t.0 t.0 refl in
          let at_t : 1 ≤ beside u.shared.works (view new) t.0 = subst (λ m. 1 ≤ beside u.shared.works (view new) m) same some in let most = once in
          omega arith)
      | inr ne ↦
          let was = l.hand.all n (let less = beside_less n in omega arith) in
          let stays = held-others t life.hand n ne in omega arith
    ];
    own = λ gone n some. elim (cases_eq n t.0) [
      | inl same ↦
          absurd (let at_t : 1 ≤ carried (view c) t.0 = subst (λ m. 1 ≤ carried (view c) m) same some in let most = once in let some_t = has in omega arith)
      | inr ne ↦ let was = l.hand.own gone n some in let stays = held-others t life.hand n ne in omega arith
    ];
    only = λ n some. elim (cases_eq n t.0) [
      | inl same ↦
          absurd (let none = held-without t life.hand in let at_t = subst (λ m. 1 ≤ held (made_ready t life).hand m) same some in omega arith)
      | inr ne ↦
          let was = l.hand.only n (let stays = held-others t life.hand n ne in omega arith) in
          let other = one_other t.0 n (λ x. ne (sym x)) in
          let less = beside_less n in
          let carries : count_if (is_gone (stage_of r s a life) || nat_le 8 (f.pc + 1)) (carried (view c) n) ≡ count_if
          (is_gone (stage_of r s a life) || nat_le 8 f.pc) (carried (view c) n) =
          ap (λ b. count_if (is_gone (stage_of r s a life) || b) (carried (view c) n)) copies_same in
          omega arith
    ];
  }

  lives_now : q.lives ≡ put r.lives a.0 (Some (made_ready t life))
  lives_now = life-changed (made_ready t) r p a life runs there

  -- where a thread that it carries or another one has stays
  apart : (n : ThreadNo) → carried (view c) n.0 ≡ 1 → n.0 ≢ t.0
  apart n one same =
      absurd (let most = once in let some = has in let at_t : carried (view c) t.0 ≡ 1 = subst (λ m. carried (view c) m ≡ 1) same one in omega arith)

  inside : t.0 < length (space_at r.state s).threads
  inside = let made = beside_made set e u cs h s r k a c is t has in let all = k.space.made in omega arith

  below : t.0 < length u.shared.threads
  below = beside_below set e u cs h s r k a c is t has

  state_is : space_at q.state s ≡ put_thread place.Ready (space_at r.state s) t
  state_is = space-here r.state s (put_thread place.Ready (space_at r.state s) t) known

  place_there : (n : ThreadNo) → n.0 ≢ t.0 → (thread_in (space_at q.state s) n).place ≡ (thread_in (space_at r.state s) n).place
  place_there n ne = ap (λ x. (thread_in x n).place) state_is ∙ ap (λ (x : Thread). x.place) (thread-there (space_at r.state s) t n _ ne)

  kept_there : (n : ThreadNo) → n.0 ≢ t.0 → place_at made n.0 ≡ place_at u.shared n.0
  kept_there n ne = ap (λ (b : Block). b.place) (block-there u.shared t kept.Ready n.0 ne)

  mine_now : HasLife s made (space_at q.state s) (stage_of r s a (made_ready t life)) (view new) (made_ready t life)
  mine_now = record {
    space = l.space;
    locks = locks_used;
    cont = l.cont ∙ sym copies_same;
    hand = hand;
    place = λ n at. place_there n (apart n (carried_one c n at)) ∙ l.place n at;
    kept = λ n at. kept_there n (apart n (carried_one c n at)) ∙ l.kept n at;
    stopped = λ n some. kept_there n (λ same. absurd (let less = stopped_less_of fs n.0 some in less_not n same less)) ∙ l.stopped n some;
    named = l.named;
  } where
    stopped_less_of : (xs : List Frame) (n : ℕ) → 1 ≤ stopped_in xs n → 1 ≤ threads_in xs n
    stopped_less_of [] n some = absurd (omega arith)
    stopped_less_of (x ∷ xs) n some =
        elim (cases_lt (stopped_in xs n) 1) [ inl none ↦ omega arith | inr more ↦ let rest = stopped_less_of xs n more in omega arith ]

    less_not : (n : ThreadNo) → n.0 ≡ t.0 → 1 ≤ threads_in fs n.0 → ⊥
    less_not n same some = let at_t : 1 ≤ threads_in fs t.0 = subst (λ m. 1 ≤ threads_in fs m) same some in let old = pushed_old t.0 in
        let one = one_same t.0 t.0 refl in let most = once in omega arith

  -- the lists
  list_locked : life.locks ≡ lock_of (nat_le 8 f.pc) (record f { pc = kk }) ∷ map (lock_of true) fs → first_list (Some life) p ≡ list_in f
  list_locked same = ap (λ ls. listed_of (slice_get ls 0) p) same

  room : (list_in f).0 < length u.shared.state.lists.lists
  room = section-room set e u cs h a f fs wk kk is copy

  -- it is the newest of its list in the history
  pub ready-listed : ready_of q s ≡ ready_of r s ++ record { thread = t; list = list_in f } ∷ []
  ready-listed =
      get_or-set_same r.ready s.0 (ready_of r s ++ record { thread = t; list = first_list (life_on r p) p } ∷ []) [] named
      ∙ ap (λ x. ready_of r s ++ record { thread = t; list = x } ∷ [])
      (ap (λ o. first_list (life_if r o) p) runs ∙ ap (λ o. first_list o p) there ∙ list_locked locks_are)

  -- where there is one rank it is so in the package
  numbers_now : FitsLists u (ready_of r s) → (m : ProcNo) → numbers_in (ready_of q s) m ≡ reverse (list_of made.state.lists m.0)
  numbers_now lists m =
      let x : Listed = record { thread = t; list = list_in f } in
      ap (λ ls. numbers_in ls m) ready-listed ∙ numbers-append (ready_of r s) (x ∷ []) m ∙ elim (cases_eq (list_in f).0 m.0) [
        | inl same ↦
            ap (λ ns. numbers_in (ready_of r s) m ++ ns) (numbers-here x m same)
            ∙ ap (λ ns. ns ++ t.0 ∷ []) (lists.numbers m) ∙ sym (reverse-cons t.0 (list_of u.shared.state.lists m.0))
            ∙ ap reverse (sym (ap (λ n. list_of (ready.pushed u.shared.state.lists (list_in f).0 t.0) n) (sym same)
            ∙ list_of-with_list_same u.shared.state.lists (list_in f).0
            (inserted u.shared.state.lists.ranks t.0 (list_of u.shared.state.lists (list_in f).0)) room
            ∙ ap (λ rs. inserted rs t.0 (list_of u.shared.state.lists (list_in f).0)) lists.ranks
            ∙ inserted_front t.0 (list_of u.shared.state.lists (list_in f).0)
            ∙ ap (λ n. t.0 ∷ list_of u.shared.state.lists n) same))
        | inr ne ↦
            ap (λ ns. numbers_in (ready_of r s) m ++ ns) (numbers-there x m ne) ∙ append-nil (numbers_in (ready_of r s) m) ∙ lists.numbers m
            ∙ ap reverse
            (sym (list_of-with_list_other u.shared.state.lists (list_in f).0 m.0
            (inserted u.shared.state.lists.ranks t.0 (list_of u.shared.state.lists (list_in f).0)) (λ z. ne (sym z))))
      ]

  pub ready-lists : FitsLists u (ready_of r s) → FitsLists v (ready_of q s)
  ready-lists lists = record {
    many = length-set u.shared.state.lists.lists (list_in f).0 (inserted u.shared.state.lists.ranks t.0 (list_of u.shared.state.lists (list_in f).0))
        ∙ lists.many;
    ranks = lists.ranks;
    numbers = numbers_now lists;
  }

  -- one more is ready, and of the load
  load_now : load_of q s ≡ load v
  load_now =
      let moves = load-moves r q s (same-threads r q a life (made_ready t life) there lives_now refl) refl in
      let active : active_threads (space_at q.state s) ≡ active_threads (put_thread place.Ready (space_at r.state s) t) =
      ap active_threads state_is in
      let more = active-with (space_at r.state s) t (record (thread_in (space_at r.state s) t) { place = place.Ready }) inside in
      let none : one_where (is_active (thread_in (space_at r.state s) t).place) ≡ 0 =
      ap one_where (beside_inactive set e u cs h s r k a c is t has) in
      let loads = loaded-placed u.shared t kept.Ready below in
      let unloaded : one_where (is_loaded (place_at u.shared t.0)) ≡ 0 = ap one_where (beside_unloaded set e u cs h s r k a c is t has) in
      let was = k.load in
      omega arith

  pub ready-held : IsHeld s r q u v a c new
  ready-held = record {
    space = subst (FitsShared made) (sym state_is)
        (fits-placed (record u.shared { state = (pushed u.shared.state f true (list_in f) (Some t)).state }) (space_at r.state s) t kept.Ready place.Ready
        (beside_made set e u cs h s r k a c is t has) below refl (record { made = k.space.made; threads = k.space.threads; sync = k.space.sync }));
    load = load_now;
    was = life;
    life = made_ready t life;
    lives = lives_now;
    old = there;
    stays = (refl, refl);
    untold = refl;
    running = refl;
    mine = mine_now;
    places =
        λ n rest none. place_there n
        (λ same. absurd (let all = split u.shared.works c t.0 in let some = has in
        let at_t : threads_of u.shared.works (Some c) t.0 ≡ 0 = subst (λ m. threads_of u.shared.works (Some c) m ≡ 0) same none in omega arith));
    kept =
        λ n rest none. kept_there n
        (λ same. absurd (let all = split u.shared.works c t.0 in let some = has in
        let at_t : threads_of u.shared.works (Some c) t.0 ≡ 0 = subst (λ m. threads_of u.shared.works (Some c) m ≡ 0) same none in omega arith));
    works = λ n none some. refl;
  }

  -- the step of the abstract machine, and the rule of list locks
  pub ready-needs : owner_at r.state p ≡ Some s → Needs w p r (ReadyRecord s t)
  ready-needs owner = (owner, beside_ready set e u cs h s r k a c is t has)

  pub ready-keeps : is_resident r s PACKAGE_PAGE ≡ true → KeepsLocks w r p life (ReadyRecord s t)
  ready-keeps page = subst (λ o. WithFirst o (λ x. CanReady r life x s t)) (sym first) (record {
    push = push_at (λ i j. (lock_of (nat_le 8 f.pc) (record f { pc = j })).for_push ≡ true) refl refl f.pc kk copy op;
    used = record {
      unused = push_at (λ i j. (lock_of (nat_le 8 f.pc) (record f { pc = j })).used ≡ false) refl refl f.pc kk copy op;
      page = subst (λ o. is_resident r o PACKAGE_PAGE ≡ true) (sym l.space) page;
      cont = λ inherits. l.cont ∙ inherits;
    };
    space = sym l.space;
    hand = held_contains life.hand t (l.hand.all t.0 has);
    counts = beside_counts set e u cs h s r k a c is t has;
    holds = beside_free set e u cs h s r k a c is t has loose;
  }) where
    first : first_lock life ≡ Some lock
    first = ap (λ ls. slice_get ls 0) locks_are
