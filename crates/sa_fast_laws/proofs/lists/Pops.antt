-- A pop takes the newest or the oldest thread out of a list, and it runs.
use Rattle.std.proofs.Common.{length-set, ◌≡◌, ◌≢◌, ℕ, zero, suc, ◌+◌, ◌-◌, ◌≤◌, ◌<◌, Bool, true, false, ◌||◌, List, [], ◌∷◌, map, length, reverse, filter, Option, Some, None, option_map, nat_le, slice_get, refl, sym, ap, ◌∙◌, subst, inl, inr, arith}
use Rattle.std.specs.Prelude.{if◌then◌else◌, nat_lt}
use Rattle.std.proofs.lemmas.Bool.{cases_eq}
use Rattle.std.proofs.lemmas.List.{get_or-set_same, length-map}
use Rattle.std.proofs.lemmas.Option.{same_Some, none-some}
use Rattle.sa_base.specs.declared.limits.TheConstants.{PACKAGE_PAGE}
use Rattle.sa_base.specs.declared.number.ActNo.{ActNo}
use Rattle.sa_base.specs.declared.number.ProcNo.{ProcNo}
use Rattle.sa_base.specs.declared.number.SpaceNo.{SpaceNo}
use Rattle.sa_base.specs.declared.number.ThreadNo.{ThreadNo}
use Rattle.sa_base.specs.declared.record.Record.TheVariants.{Run as RunRecord}
use Rattle.sa_lemmas.specs.Function.{put}
use Rattle.sa_spaces.specs.Workload.{WorkloadView}
use Rattle.sa_links.proofs.Counting.{count_at, count_two, without_lacked}
use Rattle.sa_links.specs.Lists.{count_in, count_in_all, without}
use Rattle.sa_lists.proofs.Changes.{list_of-with_list_same, list_of-with_list_other}
use Rattle.sa_lists.specs.ReadyView.{ReadyView, list_of, thread}
use Rattle.sa_code.specs.Micro.{popped, list_in, takes_first, chosen, without_chosen}
use Rattle.sa_code.specs.declared.code.Op.TheVariants.{Pop}
use Rattle.sa_code.specs.declared.state.Frame.{Frame}
use Rattle.sa_copies.specs.Copies.{package_ops, copy_at}
use Rattle.sa_fast.proofs.RunSteps.{made_below}
use Rattle.sa_fast.proofs.WorkSteps.{one_same}
use Rattle.sa_fast.specs.Rest.{one_of, one_where, is_ready, place_at, threads_at_rest}
use Rattle.sa_fast.specs.Threads.{is_loaded}
use Rattle.sa_fast.specs.declared.shared.Shared.{Shared}
use Rattle.sa_fast.specs.declared.threads.Block.{Block}
use Rattle.sa_fast.specs.declared.threads.KeptPlace.{KeptPlace}
use Rattle.sa_fast.specs.declared.threads.KeptPlace.TheVariants as kept
use Rattle.sa_abstract.specs.Calls.{Contexts}
use Rattle.sa_abstract.specs.Setting.{Setting}
use Rattle.sa_package_model.proofs.Holding.{rest_once}
use Rattle.sa_package_model.proofs.Parts.{count_chosen}
use Rattle.sa_package_model.specs.Context.{section_in, at_copy}
use Rattle.sa_package_model.specs.Hands.{threads_of}
use Rattle.sa_package_model.specs.Rules.{placed, with_shared, load}
use Rattle.sa_package_model.specs.Stands.{IsStanding}
use Rattle.sa_package_model.specs.declared.context.Context.{Context}
use Rattle.sa_package_model.specs.declared.context.ContextState.TheVariants.{Code}
use Rattle.sa_package_model.specs.declared.package.Package.{Package}
use Rattle.sa_laws.specs.Life.{Life, first_lock, change_first, with_first, ran}
use Rattle.sa_laws.specs.Locks.{CanRun, WithFirst, KeepsLocks, TakesNext, next_thread, newest, oldest, threads_in as listed_in}
use Rattle.sa_laws.specs.Readings.{Readings, Listed, running_of, life_of, life_on, life_if, ready_of, is_resident, load_of}
use Rattle.sa_laws.specs.Record.{after_record, is_other_thread}
use Rattle.sa_laws.specs.State.{Thread, space_at, thread_in, thread_at, is_active, active_threads, owner_at, put_thread}
use Rattle.sa_laws.specs.Step.{Needs, NobodyRuns}
use Rattle.sa_laws.specs.declared.place.Place.TheVariants as place
use Rattle.sa_fast_laws.proofs.relation.InCode.{pop_at, pushed_none, section-room}
use Rattle.sa_fast_laws.proofs.relation.OneLife.{IsHeld, stopped_has}
use Rattle.sa_fast_laws.proofs.relation.Places.{space-here, thread-here, thread-there, active-with, block-here, block-there, loaded-placed, fits-placed, life-changed, same-threads, load-moves}
use Rattle.sa_fast_laws.proofs.relation.ReadyOrders.{numbers-without, without_newest, without_oldest, count-reverse, newest_last, oldest_first}
use Rattle.sa_fast_laws.proofs.relation.ThreadsBeside.{life-here}
use Rattle.sa_fast_laws.specs.FastFits.{FitsShared, FitsLists, number_in, numbers_in, Holds, SitsIn}
use Rattle.sa_fast_laws.specs.Life.{lock_of, locks_from, locks_had, beside, carried, count_if, HasLife}
use Rattle.sa_fast_laws.specs.Stage.{stage_of, is_gone, place_of, kept_of, is_running, Runs}
use Rattle.sa_fast_laws.specs.View.{view}
use Rattle.sa_fast_laws.proofs.relation.Hands.{count-none}

-- a place at which a listed thread is
one_is : (b : Bool) → one_where b ≡ 1 → b ≡ true
one_is true e = refl
one_is false e = absurd (omega arith)

ready_is : (p : KeptPlace) → is_ready p ≡ true → p ≡ kept.Ready
ready_is kept.Ready e = refl
ready_is _ e = absurd cc

-- A THREAD OF A READY LIST is Ready, and in nobody's hand
module _ (set : Setting) (e : ℕ) (u : Package) (cs : Contexts Context) (h : IsStanding set e u cs) (s : SpaceNo) (r : Readings) (k : Holds s r u cs)
    (t : ℕ) (listed : 1 ≤ count_in_all t u.shared.state.lists.lists) where
  once_there : count_in_all t u.shared.state.lists.lists ≡ 1
  once_there = let rest = rest_once set e u cs h t in omega arith

  pub listed_made : t < u.shared.state.lists.made
  listed_made = made_below u.shared.state.lists t (let rest = rest_once set e u cs h t in omega arith)

  pub listed_inside : t < length u.shared.threads
  listed_inside = let below = h.parts.state.ready.below t listed in let all = h.parts.blocks in let most = h.parts.threads in omega arith

  pub listed_kept : place_at u.shared t ≡ kept.Ready
  listed_kept =
      ready_is (place_at u.shared t)
      (one_is (is_ready (place_at u.shared t)) (let agrees = h.places t in let one = once_there in let is = agrees.ready in omega arith))

  pub listed_place : (thread_at r.state s (thread t)).place ≡ place.Ready
  listed_place = subst (λ p. SitsIn p (thread_at r.state s (thread t)).place) listed_kept (k.space.threads (thread t) listed_made).place

  pub listed_alone : (b : ℕ) → threads_of u.shared.works (cs b) t ≡ 0
  listed_alone b = let once = h.threads.once b t in omega arith

-- list order: in both orders the same thread is next
slice_get-number : (xs : List Listed) (n t : ℕ) → slice_get (map number_in xs) n ≡ Some t
    → option_map (λ (x : Listed). x.thread) (slice_get xs n) ≡ Some (thread t)
slice_get-number [] n t e = absurd (none-some t e)
slice_get-number (x ∷ xs) zero t e = ap (λ m. Some (record { 0 = m })) (same_Some x.thread.0 t e)
slice_get-number (x ∷ xs) (suc n) t e = slice_get-number xs n t e

next_chosen : (own : Bool) (listed : List Listed) (xs : List ℕ) (t : ℕ) → map number_in listed ≡ reverse xs
    → (if own then slice_get xs 0 else slice_get xs (length xs - 1)) ≡ Some t
    → option_map (λ (x : Listed). x.thread) (if own then newest listed else oldest listed) ≡ Some (thread t)
next_chosen true listed xs t same e =
    slice_get-number listed (length listed - 1) t
    (ap (λ n. slice_get (map number_in listed) (n - 1)) (sym (length-map listed number_in)) ∙ newest_last xs (map number_in listed) t same e)
next_chosen false listed xs t same e = slice_get-number listed 0 t (oldest_first xs (map number_in listed) t same e)

-- where there is one rank a pop takes the first thread of its processor's own list alone
takes_own : (r : ReadyView) (own : Bool) → r.ranks ≡ [] → takes_first r own ≡ own
takes_own r true none = refl
takes_own r false none = ap (λ (ranks : List ℕ). nat_lt 0 (length ranks)) none

chosen_if : (u : Package) (own : Bool) (l t : ℕ) → chosen u.shared.state.lists own l ≡ Some t
    → (if own then slice_get (list_of u.shared.state.lists l) 0 else slice_get (list_of u.shared.state.lists l)
    (length (list_of u.shared.state.lists l) - 1)) ≡ Some t
chosen_if u true l t e = e
chosen_if u false l t e = e

without_is : (u : Package) (own : Bool) (l t : ℕ) → count_in t (list_of u.shared.state.lists l) ≤ 1 → chosen u.shared.state.lists own l ≡ Some t
    → without t (reverse (list_of u.shared.state.lists l)) ≡ reverse (without_chosen u.shared.state.lists own l)
without_is u true l t once e = without_newest (list_of u.shared.state.lists l) t once e
without_is u false l t once e = without_oldest (list_of u.shared.state.lists l) t once e

-- THE EFFECT OF A POP
module _ (set : Setting) (e : ℕ) (u : Package) (cs : Contexts Context) (h : IsStanding set e u cs) (s : SpaceNo) (r : Readings) (k : Holds s r u cs)
    (a : ActNo) (f : Frame) (fs : List Frame) (wk : Option ThreadNo) (is : cs a.0 ≡ Some (record { state = Code f; sections = fs; work = wk }))
    (w : WorkloadView) (number : ℕ) (p : ProcNo) (life : Life) (runs : running_of r p ≡ Some a) (there : life_of r a ≡ Some life)
    (of : life.space ≡ s)
    (known : s.0 < length r.state.spaces) (named : s.0 < length r.ready)
    (kk : ℕ) (copy : copy_at f.pc ≡ Some kk) (op : slice_get package_ops f.pc ≡ Some Pop) (nothing : f.thread ≡ None) (pushes : f.pushed ≡ None)
    (t : ℕ) (takes : chosen u.shared.state.lists (takes_first u.shared.state.lists f.own) (list_in f).0 ≡ Some t) where
  abbrev c : Context
  c = record { state = Code f; sections = fs; work = wk }

  abbrev g : Frame
  g = record f { pc = f.pc + 1; thread = Some (thread t) }

  abbrev new : Context
  new = record { state = Code g; sections = fs; work = wk }

  abbrev made : Shared
  made = placed (record u.shared { state = (popped u.shared.state f true (list_in f) (Some t)).state }) (Some (thread t)) kept.Running

  abbrev v : Package
  v = with_shared u made

  abbrev q : Readings
  q = after_record w number p r (RunRecord s (thread t))

  abbrev after : Life
  after = with_first (ran (thread t)) life

  l : HasLife s u.shared (space_at r.state s) (stage_of r s a life) (view c) life
  l = life-here s r u cs k a c life is there

  now : life.proc ≡ p
  now = (k.runs p a life runs there of).1

  stage : stage_of r s a life ≡ Runs
  stage = (k.runs p a life runs there of).2

  section : section_in c.state ≡ Some (record f { pc = kk })
  section = ap (at_copy f) copy

  locks_are : life.locks ≡ lock_of (nat_le 8 f.pc) (record f { pc = kk }) ∷ map (lock_of true) fs
  locks_are = l.locks ∙ ap (λ o. locks_from (nat_le 8 f.pc) o fs) section

  copies_same : nat_le 8 (f.pc + 1) ≡ nat_le 8 f.pc
  copies_same = pop_at (λ i j. nat_le 8 (i + 1) ≡ nat_le 8 i) refl refl f.pc kk copy op

  locks_ran : change_first (ran (thread t)) life.locks ≡ locks_had (view new)
  locks_ran =
      ap (change_first (ran (thread t))) locks_are
      ∙ pop_at (λ i j. change_first (ran (thread t)) (locks_from (nat_le 8 i) (Some (record f { pc = j })) fs)
      ≡ locks_from (nat_le 8 (i + 1)) (at_copy (record f { pc = i + 1; thread = Some (thread t) }) (copy_at (i + 1))) fs) refl refl f.pc kk copy op

  beside_same : (n : ℕ) → beside u.shared.works (view new) n ≡ beside u.shared.works (view c) n
  beside_same n = let old = pushed_none f (copy_at f.pc) n pushes in let new_too = pushed_none g (copy_at (f.pc + 1)) n pushes in omega arith

  listed : 1 ≤ count_in_all t u.shared.state.lists.lists
  listed =
      let one = count_chosen u.shared.state.lists (takes_first u.shared.state.lists f.own) (list_in f).0 t t takes in let same = one_same t t refl in
      let all = count_at t u.shared.state.lists.lists (list_in f).0 in omega arith

  lists_once : count_in_all t u.shared.state.lists.lists ≡ 1
  lists_once = once_there set e u cs h s r k t listed

  inside : t < length (space_at r.state s).threads
  inside = let all = k.space.made in let below = listed_made set e u cs h s r k t listed in omega arith

  below : t < length u.shared.threads
  below = listed_inside set e u cs h s r k t listed

  state_is : space_at q.state s ≡ put_thread (place.Running p) (space_at r.state s) (thread t)
  state_is = space-here r.state s (put_thread (place.Running p) (space_at r.state s) (thread t)) known

  place_there : (n : ThreadNo) → n.0 ≢ t → (thread_in (space_at q.state s) n).place ≡ (thread_in (space_at r.state s) n).place
  place_there n ne = ap (λ x. (thread_in x n).place) state_is ∙ ap (λ (x : Thread). x.place) (thread-there (space_at r.state s) (thread t) n _ ne)

  place_here : (thread_in (space_at q.state s) (thread t)).place ≡ place.Running p
  place_here = ap (λ x. (thread_in x (thread t)).place) state_is ∙ ap (λ (x : Thread). x.place) (thread-here (space_at r.state s) (thread t) _ inside)

  kept_there : (n : ThreadNo) → n.0 ≢ t → place_at made n.0 ≡ place_at u.shared n.0
  kept_there n ne = ap (λ (b : Block). b.place) (block-there u.shared (thread t) kept.Running n.0 ne)

  kept_here : place_at made t ≡ kept.Running
  kept_here = ap (λ (b : Block). b.place) (block-here u.shared (thread t) kept.Running below)

  mine_now : HasLife s made (space_at q.state s) (stage_of r s a after) (view new) after
  mine_now = record {
    space = l.space;
    locks = locks_ran;
    cont = l.cont ∙ sym copies_same;
    hand = record {
      all = λ n some. l.hand.all n (let same = beside_same n in omega arith);
      own = λ gone n some. absurd (let no : is_gone (stage_of r s a life) ≡ false = ap is_gone stage in cc);
      only = λ n some.
          let was = l.hand.only n some in let same = beside_same n in
          let none : carried (view c) n ≡ 0 = ap (λ o. one_of o n) nothing in
          let no : count_if (is_gone (stage_of r s a life) || nat_le 8 f.pc) (carried (view c) n) ≡ 0 =
          ap (count_if (is_gone (stage_of r s a life) || nat_le 8 f.pc)) none ∙ count-none (is_gone (stage_of r s a life) || nat_le 8 f.pc) in
          omega arith;
    };
    place = λ n at. let same : thread t ≡ n = same_Some (thread t) n at in
        ap (λ m. (thread_in (space_at q.state s) m).place) (sym same) ∙ place_here ∙ ap place.Running (sym now)
        ∙ ap (λ g. place_of g life.proc) (sym stage);
    kept = λ n at. let same : thread t ≡ n = same_Some (thread t) n at in
        ap (λ (m : ThreadNo). place_at made m.0) (sym same) ∙ kept_here ∙ ap kept_of (sym stage);
    stopped = λ n some. kept_there n (λ same. absurd (
        let hand = stopped_has u.shared.works c n.0 some in
        let none = subst (λ x. threads_of u.shared.works x t ≡ 0) is (listed_alone set e u cs h s r k t listed a.0) in
        let at_t : 1 ≤ threads_of u.shared.works (Some c) t = subst (λ m. 1 ≤ threads_of u.shared.works (Some c) m) same hand in
        omega arith)) ∙ l.stopped n some;
    named = λ not_running. absurd (let yes : is_running (stage_of r s a life) ≡ true = ap is_running stage in cc);
  }

  -- the lists
  room : (list_in f).0 < length u.shared.state.lists.lists
  room = section-room set e u cs h a f fs wk kk is copy

  once_in : (m : ℕ) → count_in t (list_of u.shared.state.lists m) ≤ 1
  once_in m = let all = count_at t u.shared.state.lists.lists m in let one = lists_once in omega arith

  -- in the history it is in no list any more
  pub run-listed : ready_of q s ≡ filter (is_other_thread (thread t)) (ready_of r s)
  run-listed = get_or-set_same r.ready s.0 (filter (is_other_thread (thread t)) (ready_of r s)) [] named

  numbers_now : FitsLists u (ready_of r s) → (m : ProcNo) → numbers_in (ready_of q s) m ≡ reverse (list_of made.state.lists m.0)
  numbers_now lists m =
      ap (λ ls. numbers_in ls m) run-listed ∙ numbers-without (thread t) (ready_of r s) m ∙ ap (without t) (lists.numbers m)
      ∙ elim (cases_eq (list_in f).0 m.0) [
        | inl same ↦
            ap (λ n. without t (reverse (list_of u.shared.state.lists n))) (sym same)
            ∙ without_is u (takes_first u.shared.state.lists f.own) (list_in f).0 t (once_in (list_in f).0) takes
            ∙ ap reverse
            (sym (ap (list_of made.state.lists) (sym same)
            ∙ list_of-with_list_same u.shared.state.lists (list_in f).0
            (without_chosen u.shared.state.lists (takes_first u.shared.state.lists f.own) (list_in f).0) room))
        | inr ne ↦
            without_lacked t (reverse (list_of u.shared.state.lists m.0))
            (let all = count-reverse t (list_of u.shared.state.lists m.0) in let none = elsewhere m.0 (λ z. ne (sym z)) in omega arith)
            ∙ ap reverse
            (sym (list_of-with_list_other u.shared.state.lists (list_in f).0 m.0
            (without_chosen u.shared.state.lists (takes_first u.shared.state.lists f.own) (list_in f).0) (λ z. ne (sym z))))
      ] where
        elsewhere : (m : ℕ) → m ≢ (list_in f).0 → count_in t (list_of u.shared.state.lists m) ≡ 0
        elsewhere m ne =
            let one = count_chosen u.shared.state.lists (takes_first u.shared.state.lists f.own) (list_in f).0 t t takes in let same = one_same t t refl in
            let two = count_two t u.shared.state.lists.lists (list_in f).0 m (λ z. ne (sym z)) room in let all = lists_once in omega arith

  pub run-lists : FitsLists u (ready_of r s) → FitsLists v (ready_of q s)
  run-lists lists =
      record {
        many = length-set u.shared.state.lists.lists (list_in f).0
            (without_chosen u.shared.state.lists (takes_first u.shared.state.lists f.own) (list_in f).0) ∙ lists.many;
        ranks = lists.ranks;
        numbers = numbers_now lists;
      }

  lives_now : q.lives ≡ put r.lives a.0 (Some after)
  lives_now = life-changed (with_first (ran (thread t))) r p a life runs there

  -- a ready thread runs: the load stays
  load_now : load_of q s ≡ load v
  load_now =
      let moves = load-moves r q s (same-threads r q a life after there lives_now refl) refl in
      let active : active_threads (space_at q.state s) ≡ active_threads (put_thread (place.Running p) (space_at r.state s) (thread t)) =
      ap active_threads state_is in
      let more =
      active-with (space_at r.state s) (thread t) (record (thread_in (space_at r.state s) (thread t)) { place = place.Running p }) inside in
      let one : one_where (is_active (thread_in (space_at r.state s) (thread t)).place) ≡ 1 =
      ap (λ x. one_where (is_active x)) (listed_place set e u cs h s r k t listed) in
      let loads = loaded-placed u.shared (thread t) kept.Running below in
      let loaded : one_where (is_loaded (place_at u.shared t)) ≡ 1 = ap (λ x. one_where (is_loaded x)) (listed_kept set e u cs h s r k t listed) in
      let was = k.load in
      omega arith

  elsewhere_not : (n : ThreadNo) → threads_at_rest u.shared n.0 ≡ 0 → n.0 ≢ t
  elsewhere_not n rest same =
      absurd (let some = listed in let at_t : threads_at_rest u.shared t ≡ 0 = subst (λ m. threads_at_rest u.shared m ≡ 0) same rest in omega arith)

  pub run-held : IsHeld s r q u v a c new
  run-held = record {
    space = subst (FitsShared made) (sym state_is)
        (fits-placed (record u.shared { state = (popped u.shared.state f true (list_in f) (Some t)).state }) (space_at r.state s) (thread t) kept.Running
        (place.Running p)
        (listed_made set e u cs h s r k t listed) below tt (record { made = k.space.made; threads = k.space.threads; sync = k.space.sync }));
    load = load_now;
    was = life;
    life = after;
    lives = lives_now;
    old = there;
    stays = (refl, refl);
    untold = refl;
    running = refl;
    mine = mine_now;
    places = λ n rest none. place_there n (elsewhere_not n rest);
    kept = λ n rest none. kept_there n (elsewhere_not n rest);
    works = λ n none some. refl;
  }

  first : first_lock life ≡ Some (lock_of (nat_le 8 f.pc) (record f { pc = kk }))
  first = ap (λ ls. slice_get ls 0) locks_are

  pub run-needs : owner_at r.state p ≡ Some s → NobodyRuns r.state p → Needs w p r (RunRecord s (thread t))
  run-needs owner nobody = (owner, nobody, listed_place set e u cs h s r k t listed)

  pub run-keeps : is_resident r s PACKAGE_PAGE ≡ true → KeepsLocks w r p life (RunRecord s (thread t))
  run-keeps page = subst (λ o. WithFirst o (λ x. CanRun r life x s)) (sym first) (record {
    pop = pop_at (λ i j. (lock_of (nat_le 8 f.pc) (record f { pc = j })).for_push ≡ false) refl refl f.pc kk copy op;
    used = record {
      unused = pop_at (λ i j. (lock_of (nat_le 8 f.pc) (record f { pc = j })).used ≡ false) refl refl f.pc kk copy op;
      page = subst (λ o. is_resident r o PACKAGE_PAGE ≡ true) (sym l.space) page;
      cont = λ inherits. l.cont ∙ inherits;
    };
    space = sym l.space;
  })

  pub run-next : FitsLists u (ready_of r s) → TakesNext r (life_on r p) s (thread t)
  run-next lists =
      subst (λ o. TakesNext r o s (thread t)) (sym (ap (life_if r) runs ∙ there))
      (subst (λ o. WithFirst o (λ x. next_thread r s x ≡ Some (thread t))) (sym first)
      (next_chosen f.own (listed_in r s (list_in f)) (list_of u.shared.state.lists (list_in f).0) t (lists.numbers (list_in f))
      (chosen_if u f.own (list_in f).0 t
      (ap (λ b. chosen u.shared.state.lists b (list_in f).0) (sym (takes_own u.shared.state.lists f.own lists.ranks)) ∙ takes))))
