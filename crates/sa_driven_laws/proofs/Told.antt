-- A fresh activation is told: of a processor or a block, which hands nothing over; of a stop or a return, with which it takes over
-- the other context, as its life inherits what the other one had.
use Rattle.std.proofs.Common.{◌≡◌, ◌≢◌, ℕ, ◌+◌, ◌≤◌, ◌<◌, Bool, true, false, ◌||◌, ◌&&◌, List, [], ◌∷◌, map, filter, length, length-append, sum_by, count_by, Contains, Option, Some, None, option_map, slice_index_or, is_none, refl, sym, ap, ◌∙◌, subst, inl, inr, arith}
use Rattle.std.specs.Prelude.{if◌then◌else◌}
use Rattle.std.specs.List.{list_any}
use Rattle.std.proofs.Math.Bool.{or-false, or_assoc}
use Rattle.std.proofs.lemmas.Bool.{cases_eq, cases_lt, eq-eqb, eqb-true, ne_eqb}
use Rattle.std.proofs.lemmas.List.Sums.{sum_by-cons}
use Rattle.std.proofs.lemmas.List.{length-map, get_or-set_same, get_or-set_other, get_or_past}
use Rattle.std.proofs.lemmas.Option.{same_Some}
use Rattle.std.proofs.lemmas.Simd.{get_or-zip2}
use Rattle.sa_base.specs.declared.number.ActNo.{ActNo}
use Rattle.sa_base.specs.declared.number.ProcNo.{ProcNo}
use Rattle.sa_base.specs.declared.number.SpaceNo.{SpaceNo}
use Rattle.sa_base.specs.declared.number.ThreadNo.{ThreadNo}
use Rattle.sa_base.specs.declared.record.Note.{Note}
use Rattle.sa_base.specs.declared.record.Note.TheVariants.{Preempted, Unblocked}
use Rattle.sa_base.specs.declared.record.Record.TheVariants.{Told}
use Rattle.sa_lemmas.proofs.FunctionUpdates.{put-same, put-other}
use Rattle.sa_lemmas.proofs.ListReads.{map-list}
use Rattle.sa_lemmas.proofs.Searches.{any-contained}
use Rattle.sa_lemmas.specs.Function.{put}
use Rattle.sa_spaces.specs.Workload.{WorkloadView}
use Rattle.sa_fast.specs.Rest.{one_where, place_at}
use Rattle.sa_fast.specs.Threads.{block_at, is_loaded, load_of as loaded}
use Rattle.sa_fast.specs.declared.shared.Shared.{Shared}
use Rattle.sa_fast.specs.declared.threads.Block.{Block}
use Rattle.sa_fast.specs.declared.threads.KeptPlace.TheVariants as fast
use Rattle.sa_abstract.specs.Calls.{Contexts}
use Rattle.sa_abstract.specs.Setting.{Setting}
use Rattle.sa_package_model.specs.Rules.{placed}
use Rattle.sa_driven_model.proofs.Rules.{own_inside}
use Rattle.sa_driven_model.proofs.Sets.{length-both}
use Rattle.sa_driven_model.specs.declared.context.DrivenContext.{DrivenContext}
use Rattle.sa_driven_model.specs.declared.space.DrivenSpace.{DrivenSpace}
use Rattle.sa_driven_model.specs.Stands.{IsStanding}
use Rattle.sa_driven_model.specs.Step.{took_over}
use Rattle.sa_driven_model.specs.Threads.{has, with_some, both_sets}
use Rattle.sa_laws.specs.Life.{Life, inherits, bereft, inherited}
use Rattle.sa_laws.specs.Readings.{Readings, running_of, life_of, untold_of, load_of, stopped_thread, untold_thread}
use Rattle.sa_laws.specs.Record.{after_record, same_note, is_other_note, handed}
use Rattle.sa_laws.specs.State.{SpaceState, space_at, thread_in, active_threads}
use Rattle.sa_laws.specs.declared.place.Place.TheVariants as place
use Rattle.sa_fast_laws.proofs.lives.PlainNotices.{IsLess}
use Rattle.sa_fast_laws.proofs.relation.NoteLists.{notes-same}
use Rattle.sa_fast_laws.proofs.relation.Notices.{tells, back-alone, any-filter, sum-without, count-without, count-contained, contained-fails, note_of, same-self, of-self, other-passes, told-once, told-none}
use Rattle.sa_fast_laws.proofs.relation.Places.{block-here, block-there, loaded-placed, SameThreads, sum_same}
use Rattle.sa_fast_laws.specs.FastFits.{is_of, FitsThread, FitsShared}
use Rattle.sa_fast_laws.specs.Stage.{stage_by, stage_on, stage_of, is_gone, is_act, is_running, place_of, kept_of, Runs, Stopped, Returned}
use Rattle.sa_driven_laws.specs.Life.{in_hand, is_own, HasLife, IsAtRest}
use Rattle.sa_driven_laws.specs.DrivenFits.{Holds, RestBut, DrivenHears}
use Rattle.sa_driven_laws.proofs.Changed.{life-here, IsChanged, changed-holds, changed-others}
use Rattle.sa_driven_laws.proofs.Inside.{hand-append}
use Rattle.sa_driven_laws.proofs.Runners.{carried-apart}

-- SETS
pub has-some : (set : List Bool) (o : Option ThreadNo) (n : ℕ) → ((t : ThreadNo) → o ≡ Some t → t.0 < length set)
    → has (with_some set o) n ≡ (has set n || is_own o n)
has-some set None n inside = sym (or-false (has set n))
has-some set (Some t) n inside = elim (cases_eq n t.0) [
  | inl e ↦
      ap (has (with_some set (Some t))) e ∙ get_or-set_same set t.0 true false (inside t refl) ∙ sym (or-yes (has set n))
      ∙ sym (ap (λ b. has set n || b) (eq-eqb t.0 n (sym e)))
  | inr ne ↦ get_or-set_other set t.0 n true false ne ∙ sym (or-false (has set n)) ∙ sym (ap (λ b. has set n || b) (ne_eqb t.0 n (λ e. ne (sym e))))
] where
  or-yes : (b : Bool) → (b || true) ≡ true
  or-yes true = refl
  or-yes false = refl

pub has-both : (a b : List Bool) (n : ℕ) → length a ≡ length b → has (both_sets a b) n ≡ (has a n || has b n)
has-both a b n same = elim (cases_lt n (length a)) [
  | inl inside ↦ get_or-zip2 (λ x y. x || y) a b n false false false inside (omega (arith, inside, same))
  | inr past ↦
      get_or_past (both_sets a b) n false (let size = length-both a b same in omega (arith, size, past))
      ∙ sym (ap (λ x. x || has b n) (get_or_past a n false past) ∙ get_or_past b n false (omega (arith, past, same)))
]

-- NOTICES THAT HAND NOTHING OVER
filter-sum : (f : Note → ℕ) (keep : Note → Bool) (xs : List Note) → ((y : Note) → keep y ≡ false → f y ≡ 0) → sum_by f (filter keep xs) ≡ sum_by f xs
filter-sum f keep [] none = refl
filter-sum f keep (x ∷ xs) none = by (filter-sum f keep xs none) (keep x) refl where
  by : sum_by f (filter keep xs) ≡ sum_by f xs → (b : Bool) → keep x ≡ b
      → sum_by f (if keep x then x ∷ filter keep xs else filter keep xs) ≡ sum_by f (x ∷ xs)
  by rest true e =
      ap (λ b. sum_by f (if b then x ∷ filter keep xs else filter keep xs)) e
      ∙ (let one = sum_by-cons f x (filter keep xs) in let all = sum_by-cons f x xs in omega (arith, one, all, rest))
  by rest false e =
      ap (λ b. sum_by f (if b then x ∷ filter keep xs else filter keep xs)) e
      ∙ (let zero_is = none x e in let all = sum_by-cons f x xs in omega (arith, zero_is, all, rest))

module _ (s : SpaceNo) (r q : Readings) (m : Note) (u : Shared) (cs : Contexts DrivenContext) (i : IsLess s r q m) where
  life_x : (x : ActNo) → life_of q x ≡ life_of r x
  life_x x = ap (λ (f : ℕ → Option Life). f x.0) i.lives

  stage : (x : ActNo) (y : ProcNo) → stage_on q s x y ≡ stage_on r s x y
  stage x y =
      ap (λ ns. stage_by (list_any (same_note (Preempted x)) ns) (list_any (same_note (Unblocked x)) ns) (is_act x (running_of q y))) i.untold
      ∙ ap (λ b. stage_by b (list_any (same_note (Unblocked x)) (filter (is_other_note m) (untold_of r s))) (is_act x (running_of q y)))
      (any-filter (same_note (Preempted x)) (is_other_note m) (untold_of r s) (i.stops x))
      ∙ ap (λ b. stage_by (list_any (same_note (Preempted x)) (untold_of r s)) b (is_act x (running_of q y)))
      (any-filter (same_note (Unblocked x)) (is_other_note m) (untold_of r s) (i.backs x))
      ∙ ap
      (λ ps. stage_by (list_any (same_note (Preempted x)) (untold_of r s)) (list_any (same_note (Unblocked x)) (untold_of r s))
      (is_act x (slice_index_or ps y.0 None))) i.running

  untold_is : (y : Note) → untold_thread q y ≡ untold_thread r y
  untold_is (Preempted b) = ap stopped_thread (life_x b)
  untold_is _ = refl

  less-load : load_of q s ≡ load_of r s
  less-load =
      let one : sum_by (untold_thread q) (untold_of q s) ≡ sum_by (untold_thread q) (filter (is_other_note m) (untold_of r s)) =
      ap (sum_by (untold_thread q)) i.untold in
      let two = filter-sum (untold_thread q) (is_other_note m) (untold_of r s) (λ y e. untold_is y ∙ i.none y e) in
      let three = notes-same r q (untold_of r s) (λ b has. ap stopped_thread (life_x b)) in
      let active : active_threads (space_at q.state s) ≡ active_threads (space_at r.state s) = ap (λ z. active_threads (space_at z s)) i.state in
      omega (arith, one, two, three, active)

  less-holds : Holds s r u cs → Holds s q u cs
  less-holds k = record {
    space = subst (λ z. FitsShared u (space_at z s)) (sym i.state) k.space;
    load = less-load ∙ k.load;
    lives = λ x d at. let its = k.lives x d at in (
      its.0,
      life_x x ∙ its.1,
      subst (λ z. HasLife s u (space_at z s) (stage_of q s x its.0) d its.0) (sym i.state)
          (subst (λ g. HasLife s u (space_at r.state s) g d its.0) (sym (stage x its.0.proc)) its.2),
    );
    others = λ x l at of none. k.others x l (sym (life_x x) ∙ at) of none;
    noted = λ x there. k.noted x (elim there [
      | inl stop ↦ inl (contained-fails (tells m) (Preempted x) (untold_of r s) (subst (λ ns. Contains ns (Preempted x)) i.untold stop)).0
      | inr back ↦ inr (contained-fails (tells m) (Unblocked x) (untold_of r s) (subst (λ ns. Contains ns (Unblocked x)) i.untold back)).0
    ]);
    single = λ x. subst (λ ns. count_by (is_of x) ns ≤ 1) (sym i.untold)
        (let less = count-without (tells m) (is_of x) (untold_of r s) in let was = k.single x in omega (arith, less, was));
    runs = λ y x l at its of.
        let old = k.runs y x l (sym (ap (λ ps. slice_index_or ps y.0 None) i.running) ∙ at) (sym (life_x x) ∙ its) of in (old.0, old.1, stage x l.proc ∙ old.2);
  }

  pub less-hears : (n : ActNo) → DrivenHears s r n u cs → DrivenHears s q n u cs
  less-hears n k = record {
    holds = less-holds k.holds;
    others = λ x c l ne at is. subst (λ g. IsAtRest g c l) (sym (stage x l.proc)) (k.others x c l ne at (sym (life_x x) ∙ is));
    lowers = k.lowers;
    runs = λ l is. stage n l.proc ∙ k.runs l (sym (life_x n) ∙ is);
  }

-- A THREAD is Carried from now on, as it is in the history already.
abbrev loaded_if : List Block → Option ThreadNo → ℕ
loaded_if x None = 0
loaded_if x (Some n) = one_where (is_loaded (block_at x n.0).place)

record IsOver (x : Shared) (y : SpaceState) (t : Option ThreadNo) : Type 0 where
  pub here : (n : ThreadNo) → t ≡ Some n → place_at (placed x t fast.Carried) n.0 ≡ fast.Carried
  pub there : (n : ThreadNo) → ((m : ThreadNo) → t ≡ Some m → n.0 ≢ m.0) → place_at (placed x t fast.Carried) n.0 ≡ place_at x n.0
  pub load : loaded (placed x t fast.Carried).threads + loaded_if x.threads t ≡ loaded x.threads
  pub fits : FitsShared (placed x t fast.Carried) y

over : (x : Shared) (y : SpaceState) (t : Option ThreadNo) → ((n : ThreadNo) → t ≡ Some n → n.0 < length x.threads)
    → ((n : ThreadNo) → t ≡ Some n → (thread_in y n).place ≡ place.Carried) → FitsShared x y → IsOver x y t
over x y None inside carried h = record { here = λ n at. absurd cc; there = λ n other. refl; load = omega arith; fits = h }
over x y (Some t) inside carried h = let below = inside t refl in record {
  here = λ n at. ap (λ (j : ThreadNo). place_at (placed x (Some t) fast.Carried) j.0) (sym (same_Some t n at))
      ∙ ap (λ (b : Block). b.place) (block-here x t fast.Carried below);
  there = λ n other. ap (λ (b : Block). b.place) (block-there x t fast.Carried n.0 (other t refl));
  load = let all = loaded-placed x t fast.Carried below in let none : one_where (is_loaded fast.Carried) ≡ 0 = refl in omega (arith, all, none);
  fits = record {
    made = h.made;
    threads = λ n less. elim (cases_eq n.0 t.0) [
      | inl e ↦
          let act : n ≡ t = ap (λ j. record { 0 = j }) e in
          subst (λ j. FitsThread (block_at (placed x (Some t) fast.Carried).threads j.0) (thread_in y j)) (sym act)
          (subst (λ b. FitsThread b (thread_in y t)) (sym (block-here x t fast.Carried below))
          (let was = h.threads t (subst (λ (j : ThreadNo). j.0 < x.state.lists.made) act less) in
          record { program = was.program; pc = was.pc; regs = was.regs; place = carried t refl }))
      | inr ne ↦ subst (λ b. FitsThread b (thread_in y n)) (sym (block-there x t fast.Carried n.0 ne)) (h.threads n less)
    ];
    sync = h.sync;
  };
}

-- NOTICES OF A STOP OR A RETURN
module _ (set : Setting) (e : ℕ) (u : DrivenSpace) (cs : Contexts DrivenContext) (h : IsStanding set e u cs) (s : SpaceNo) (r : Readings)
    (k : Holds s r u.base.shared cs) (a b : ActNo) (c d : DrivenContext) (is : cs a.0 ≡ Some c) (theirs : cs b.0 ≡ Some d) (differ : b.0 ≢ a.0)
    (w : WorkloadView) (number : ℕ) (p : ProcNo) (mine from : Life) (here : life_of r a ≡ Some mine) (there : life_of r b ≡ Some from)
    (upped : r.upped ≡ Some a) (stage_a : stage_of r s a mine ≡ Runs) (kind : Bool) (told : Contains (untold_of r s) (note_of kind b)) where
  abbrev new : DrivenContext
  new = took_over c d

  abbrev v : Shared
  v = placed u.base.shared d.thread fast.Carried

  abbrev ds : Contexts DrivenContext
  ds = put (put cs a.0 (Some new)) b.0 None

  abbrev q : Readings
  q = after_record w number p r (Told (note_of kind b))

  la : HasLife s u.base.shared (space_at r.state s) (stage_of r s a mine) c mine
  la = life-here s r u.base.shared cs k a c mine is here

  lb : HasLife s u.base.shared (space_at r.state s) (stage_of r s b from) d from
  lb = life-here s r u.base.shared cs k b d from theirs there

  -- the readings, whatever the notice is
  record IsTold (kd : Bool) (x : Readings) : Type 0 where
    pub state : x.state ≡ r.state
    pub running : x.running ≡ r.running
    pub untold : untold_of x s ≡ filter (is_other_note (note_of kd b)) (untold_of r s)
    pub lives : x.lives ≡ handed r.upped b (life_of r b) r.lives

  is_told : IsTold kind q
  is_told = by kind where
    by : (kd : Bool) → IsTold kd (after_record w number p r (Told (note_of kd b)))
    by true = record { state = refl; running = refl; untold = map-list (filter (is_other_note (Preempted b))) r.untold s.0 refl; lives = refl }
    by false = record { state = refl; running = refl; untold = map-list (filter (is_other_note (Unblocked b))) r.untold s.0 refl; lives = refl }

  -- the other life is gone
  gone : (kd : Bool) → kd ≡ kind
      → ((is_gone (stage_of r s b from) ≡ true) × (is_running (stage_of r s b from) ≡ false)) ×
      (place_of (stage_of r s b from) from.proc ≡ place.Carried)
      × (one_where (is_loaded (kept_of (stage_of r s b from))) ≡ (if kd then 1 else 0))
  gone true same =
      let here : list_any (same_note (Preempted b)) (untold_of r s) ≡ true =
      any-contained (same_note (Preempted b)) (Preempted b) (untold_of r s) (subst (λ z. Contains (untold_of r s) (note_of z b)) (sym same) told)
      (same-self true b) in
      let is_stopped : stage_of r s b from ≡ Stopped =
      ap (λ x. stage_by x (list_any (same_note (Unblocked b)) (untold_of r s)) (is_act b (running_of r from.proc))) here in
      ((ap is_gone is_stopped, ap is_running is_stopped), ap (λ g. place_of g from.proc) is_stopped, ap (λ g. one_where (is_loaded (kept_of g))) is_stopped)
  gone false same =
      let none = back-alone kind b (untold_of r s) told (k.single b) (sym same) in
      let here : list_any (same_note (Unblocked b)) (untold_of r s) ≡ true =
      any-contained (same_note (Unblocked b)) (Unblocked b) (untold_of r s) (subst (λ z. Contains (untold_of r s) (note_of z b)) (sym same) told)
      (same-self false b) in
      let is_back : stage_of r s b from ≡ Returned =
      ap (λ x. stage_by x (list_any (same_note (Unblocked b)) (untold_of r s)) (is_act b (running_of r from.proc))) none
      ∙ ap (λ x. stage_by false x (is_act b (running_of r from.proc))) here in
      ((ap is_gone is_back, ap is_running is_back), ap (λ g. place_of g from.proc) is_back, ap (λ g. one_where (is_loaded (kept_of g))) is_back)

  moved : IsOver u.base.shared (space_at r.state s) d.thread
  moved = over u.base.shared (space_at r.state s) d.thread (λ n at. own_inside set e u cs h b.0 d theirs n at)
      (λ n at. lb.place n at ∙ (gone kind refl).1) k.space

  -- lives
  lives_are : q.lives ≡ put (put r.lives b.0 (Some (bereft from))) a.0 (Some (inherits from mine))
  lives_are =
      is_told.lives ∙ ap (λ o. handed o b (life_of r b) r.lives) upped ∙ ap (λ o. handed (Some a) b o r.lives) there
      ∙ ap (λ o. let ls = put r.lives b.0 (option_map bereft o) in put ls a.0 (option_map (inherits from) (ls a.0))) there
      ∙ ap (λ o. put (put r.lives b.0 (Some (bereft from))) a.0 (option_map (inherits from) o))
      (put-other r.lives b.0 a.0 (Some (bereft from)) (λ x. differ (sym x)) ∙ here)

  live_a : q.lives a.0 ≡ Some (inherits from mine)
  live_a = ap (λ (f : ℕ → Option Life). f a.0) lives_are ∙ put-same (put r.lives b.0 (Some (bereft from))) a.0 (Some (inherits from mine))

  live_b : q.lives b.0 ≡ Some (bereft from)
  live_b = ap (λ (f : ℕ → Option Life). f b.0) lives_are ∙ put-other (put r.lives b.0 (Some (bereft from))) a.0 b.0 (Some (inherits from mine)) differ
      ∙ put-same r.lives b.0 (Some (bereft from))

  live_x : (x : ℕ) → x ≢ a.0 → x ≢ b.0 → q.lives x ≡ r.lives x
  live_x x na nb = ap (λ (f : ℕ → Option Life). f x) lives_are ∙ put-other (put r.lives b.0 (Some (bereft from))) a.0 x (Some (inherits from mine)) na
      ∙ put-other r.lives b.0 x (Some (bereft from)) nb

  same_threads : SameThreads r q
  same_threads x = elim (cases_eq x.0 a.0) [
    | inl e ↦ ap stopped_thread (ap q.lives e ∙ live_a) ∙ sym (ap stopped_thread (ap r.lives e ∙ here))
    | inr na ↦ elim (cases_eq x.0 b.0) [
      | inl e ↦ ap stopped_thread (ap q.lives e ∙ live_b) ∙ sym (ap stopped_thread (ap r.lives e ∙ there))
      | inr nb ↦ ap stopped_thread (live_x x.0 na nb)
    ]
  ]

  -- the load: a stop that is told no longer counts
  told_value : (kd : Bool) → kd ≡ kind → (m : Note) → tells (note_of kd b) m ≡ true → untold_thread r m ≡ untold_thread r (note_of kd b)
  told_value true same (Preempted x) is_it = ap (λ n. stopped_thread (r.lives n)) (eqb-true x.0 b.0 is_it)
  told_value false same (Unblocked x) is_it = refl
  told_value _ same _ is_it = absurd cc

  note_value : (kd : Bool) → kd ≡ kind → untold_thread r (note_of kd b) ≡ loaded_if u.base.shared.threads d.thread
  note_value kd same = by kd same d.thread refl where
    by : (kd : Bool) → kd ≡ kind → (o : Option ThreadNo) → d.thread ≡ o → untold_thread r (note_of kd b) ≡ loaded_if u.base.shared.threads o
    by true same None at = ap stopped_thread there ∙ ap (λ t. if is_none t then 0 else 1) (lb.named (gone true same).0.1 ∙ at)
    by true same (Some n) at = ap stopped_thread there ∙ ap (λ t. if is_none t then 0 else 1) (lb.named (gone true same).0.1 ∙ at)
        ∙ sym (ap (λ x. one_where (is_loaded x)) (lb.kept n at) ∙ (gone true same).2)
    by false same None at = refl
    by false same (Some n) at = sym (ap (λ x. one_where (is_loaded x)) (lb.kept n at) ∙ (gone false same).2)

  load_now : load_of q s ≡ loaded v.threads
  load_now =
      let ns = untold_of r s in
      let drop =
      sum-without (tells (note_of kind b)) (untold_thread r) (untold_thread r (note_of kind b)) ns (told_value kind refl)
      (told-once kind b ns told (k.single b)) in
      let left : sum_by (untold_thread q) (untold_of q s) ≡ sum_by (untold_thread r) (filter (is_other_note (note_of kind b)) ns) =
      ap (sum_by (untold_thread q)) is_told.untold ∙ sum_same r q same_threads (filter (is_other_note (note_of kind b)) ns) in
      let active : active_threads (space_at q.state s) ≡ active_threads (space_at r.state s) =
      ap (λ x. active_threads (space_at x s)) is_told.state in
      let value = note_value kind refl in
      let loads = moved.load in
      let was = k.load in
      omega (arith, drop, left, active, value, loads, was)

  stage_kept : (x : ActNo) (y : ProcNo) → x.0 ≢ b.0 → stage_on q s x y ≡ stage_on r s x y
  stage_kept x y ne =
      let ns = untold_of r s in let other = is_other_note (note_of kind b) in
      ap (λ ms. stage_by (list_any (same_note (Preempted x)) ms) (list_any (same_note (Unblocked x)) ms) (is_act x (running_of q y))) is_told.untold
      ∙ ap (λ z. stage_by z (list_any (same_note (Unblocked x)) (filter other ns)) (is_act x (running_of q y)))
      (any-filter (same_note (Preempted x)) other ns (other-passes kind b true x ne))
      ∙ ap (λ z. stage_by (list_any (same_note (Preempted x)) ns) z (is_act x (running_of q y)))
      (any-filter (same_note (Unblocked x)) other ns (other-passes kind b false x ne))
      ∙ ap
      (λ ps. stage_by (list_any (same_note (Preempted x)) ns) (list_any (same_note (Unblocked x)) ns) (is_act x (slice_index_or ps y.0 None))) is_told.running

  a_not_b : a.0 ≢ b.0
  a_not_b x = differ (sym x)

  stage_now : stage_of q s a (inherits from mine) ≡ Runs
  stage_now = stage_kept a mine.proc a_not_b ∙ stage_a

  -- the other one's thread is no one else's
  apart_d : (x : ℕ) (y : DrivenContext) (t : ThreadNo) → x ≢ b.0 → cs x ≡ Some y → y.thread ≡ Some t → (m : ThreadNo) → d.thread ≡ Some m → t.0 ≢ m.0
  apart_d x y t nb at carries m its same = nb (carried-apart set e u cs h x b.0 y d t m at theirs carries its same)

  state_same : (n : ThreadNo) → (thread_in (space_at q.state s) n).place ≡ (thread_in (space_at r.state s) n).place
  state_same n = ap (λ z. (thread_in (space_at z s) n).place) is_told.state

  hand_all : (n : ℕ) → in_hand (inherits from mine).hand n
      ≡ (has (with_some (both_sets c.hand d.hand) d.thread) n || (is_gone (stage_of q s a (inherits from mine)) && is_own c.thread n))
  hand_all n =
      let same : length c.hand ≡ length d.hand = h.hands a.0 c is ∙ sym (h.hands b.0 d theirs) in
      let size = length-both c.hand d.hand same in
      hand-append mine.hand from.hand n ∙ ap (λ x. x || in_hand from.hand n) (la.hand n) ∙ ap (λ x. (has c.hand n || (x && is_own c.thread n)) || in_hand from.hand n) (ap is_gone stage_a)
      ∙ ap (λ x. x || in_hand from.hand n) (or-false (has c.hand n)) ∙ ap (λ x. has c.hand n || x) (lb.hand n)
      ∙ ap (λ x. has c.hand n || (has d.hand n || (x && is_own d.thread n))) (gone kind refl).0.0
      ∙ sym (or_assoc (has c.hand n) (has d.hand n) (is_own d.thread n))
      ∙ ap (λ x. x || is_own d.thread n) (sym (has-both c.hand d.hand n same))
      ∙ sym (has-some (both_sets c.hand d.hand) d.thread n (λ t at. let inside = own_inside set e u cs h b.0 d theirs t at in
      omega (arith, inside, h.parts.blocks, h.hands a.0 c is, size)))
      ∙ sym (or-false (has (with_some (both_sets c.hand d.hand) d.thread) n))
      ∙ sym (ap (λ x. has (with_some (both_sets c.hand d.hand) d.thread) n || (x && is_own c.thread n)) (ap is_gone stage_now))

  mine_now : HasLife s v (space_at q.state s) (stage_of q s a (inherits from mine)) new (inherits from mine)
  mine_now = record {
    space = la.space;
    locks = length-append mine.locks (map inherited from.locks) ∙ (let one = length-map from.locks inherited in let two = la.locks in let three = lb.locks in
        omega (arith, one, two, three));
    cont = la.cont;
    hand = hand_all;
    place = λ n at. state_same n ∙ la.place n at ∙ ap (λ g. place_of g mine.proc) (stage_a ∙ sym stage_now);
    kept = λ n at. moved.there n (apart_d a.0 c n a_not_b is at) ∙ la.kept n at ∙ ap kept_of (stage_a ∙ sym stage_now);
    named = λ no. absurd (let yes : is_running (stage_of q s a (inherits from mine)) ≡ true = ap is_running stage_now in cc);
  }

  ds_a : ds a.0 ≡ Some new
  ds_a = put-other (put cs a.0 (Some new)) b.0 a.0 None a_not_b ∙ put-same cs a.0 (Some new)

  ds_b : ds b.0 ≡ None
  ds_b = put-same (put cs a.0 (Some new)) b.0 None

  -- a notice that waits was waiting, and is not of the other one
  noted_by : (x : ActNo) (kd : Bool) → Contains (untold_of q s) (note_of kd x) → Contains (untold_of r s) (note_of kd x) × (x.0 ≢ b.0)
  noted_by x kd has_it =
      let left = subst (λ ms. Contains ms (note_of kd x)) is_told.untold has_it in
      let old = contained-fails (tells (note_of kind b)) (note_of kd x) (untold_of r s) left in (
        old.0,
        λ eq. (
            let act : x ≡ b = ap (λ j. record { 0 = j }) eq in
            let some =
            count-contained (is_of b) (note_of kd x) (filter (is_other_note (note_of kind b)) (untold_of r s)) left
            (ap (λ z. is_of b (note_of kd z)) act ∙ of-self kd b) in
            let none = told-none kind b (untold_of r s) told (k.single b) in omega (arith, some, none)),
      )

  told-changed : IsChanged s r q u.base.shared v cs ds a (inherits from mine) new
  told-changed = record {
    space = subst (λ x. FitsShared v (space_at x s)) (sym is_told.state) moved.fits;
    load = load_now;
    here = live_a;
    mine = ds_a;
    own = mine_now;
    single = λ x. subst (λ ms. count_by (is_of x) ms ≤ 1) (sym is_told.untold)
        (let less = count-without (tells (note_of kind b)) (is_of x) (untold_of r s) in let was = k.single x in omega (arith, less, was));
    runs = λ y at.
        let at_r : running_of r y ≡ Some a = sym (ap (λ ps. slice_index_or ps y.0 None) is_told.running) ∙ at in
        let old = k.runs y a mine at_r here la.space in (old.1, stage_now);
    others = λ x na. elim (cases_eq x.0 b.0) [
      | inl eq ↦ inr (record {
        ctx = ap ds eq ∙ ds_b;
        out = λ life at. ap (λ (z : Life). z.inside) (same_Some life (bereft from) (sym at ∙ ap q.lives eq ∙ live_b));
        runs = λ y at.
            let at_r : running_of r y ≡ Some x = sym (ap (λ ps. slice_index_or ps y.0 None) is_told.running) ∙ at in
            let act : x ≡ b = ap (λ j. record { 0 = j }) eq in
            let old = k.runs y x from at_r (ap r.lives eq ∙ there) lb.space in
            let yes : is_running (stage_of r s b from) ≡ true = ap is_running (ap (λ z. stage_on r s z from.proc) (sym act) ∙ old.2) in
            let no = (gone kind refl).0.1 in cc;
        noted = λ it. elim it [
          | inl stop ↦ (noted_by x true stop).1 eq
          | inr back ↦ (noted_by x false back).1 eq
        ];
      })
      | inr nb ↦ inl (record {
        life = live_x x.0 na nb;
        ctx = put-other (put cs a.0 (Some new)) b.0 x.0 None nb ∙ put-other cs a.0 x.0 (Some new) na;
        stage = λ y. stage_kept x y nb;
        runs = λ y at. sym (ap (λ ps. slice_index_or ps y.0 None) is_told.running) ∙ at;
        noted = λ it. elim it [
          | inl stop ↦ inl (noted_by x true stop).0
          | inr back ↦ inr (noted_by x false back).0
        ];
        places = λ y t at carries. (state_same t, moved.there t (apart_d x.0 y t nb at carries));
      })
    ];
  }

  pub told-hears : c.lowers ≡ false → RestBut s r a cs → DrivenHears s (after_record w number p r (Told (note_of kind b))) a
      (placed u.base.shared d.thread fast.Carried) (put (put cs a.0 (Some (took_over c d))) b.0 None)
  told-hears lowers rest = record {
    holds = changed-holds s r q u.base.shared v cs ds a (inherits from mine) new told-changed k;
    others = changed-others s r q u.base.shared v cs ds a (inherits from mine) new told-changed rest;
    lowers = λ y at. ap (λ (z : DrivenContext). z.lowers) (same_Some y new (sym at ∙ ds_a)) ∙ lowers;
    runs = λ l its. subst (λ z. stage_of q s a z ≡ Runs) (same_Some (inherits from mine) l (sym live_a ∙ its)) stage_now;
  }
