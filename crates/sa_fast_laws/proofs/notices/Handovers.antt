-- A handler is told of a stop or an unblock: it takes over the other context, as its life inherits what the other one had.
use Rattle.std.proofs.Common.{◌≡◌, ◌≢◌, ℕ, ◌+◌, ◌≤◌, ◌<◌, Bool, true, false, ◌||◌, List, [], ◌∷◌, ◌++◌, map, filter, length, sum_by, count_by, Contains, Option, Some, None, IsSome, option_map, slice_index_or, refl, sym, ap, ◌∙◌, subst, ◌⊎◌, inl, inr, arith}
use Rattle.std.specs.Prelude.{if◌then◌else◌, is_none}
use Rattle.std.proofs.lemmas.Bool.{cases_eq, cases_lt, eqb-true}
use Rattle.std.proofs.lemmas.List.{map-append, length-set}
use Rattle.std.proofs.lemmas.Option.{same_Some, none-some}
use Rattle.std.specs.List.{list_any}
use Rattle.sa_base.specs.declared.number.ActNo.{ActNo}
use Rattle.sa_base.specs.declared.number.ProcNo.{ProcNo}
use Rattle.sa_base.specs.declared.number.SpaceNo.{SpaceNo}
use Rattle.sa_base.specs.declared.number.ThreadNo.{ThreadNo}
use Rattle.sa_base.specs.declared.record.Note.{Note}
use Rattle.sa_base.specs.declared.record.Note.TheVariants.{Preempted, Unblocked}
use Rattle.sa_base.specs.declared.record.Record.TheVariants.{Told}
use Rattle.sa_lemmas.proofs.FunctionUpdates.{put-same, put-other}
use Rattle.sa_lemmas.specs.Function.{put}
use Rattle.sa_spaces.specs.Workload.{WorkloadView}
use Rattle.sa_lemmas.proofs.ListReads.{map-list}
use Rattle.sa_code.specs.declared.state.Frame.{Frame}
use Rattle.sa_fast.proofs.WorkSteps.{one_other}
use Rattle.sa_fast.specs.Rest.{one_of, one_where, place_at, threads_at_rest}
use Rattle.sa_fast.specs.Threads.{block_at, moved_to, is_loaded, load_of as loaded}
use Rattle.sa_fast.specs.declared.shared.Shared.{Shared}
use Rattle.sa_fast.specs.declared.threads.Block.{Block}
use Rattle.sa_fast.specs.declared.threads.KeptPlace.TheVariants as fast
use Rattle.sa_abstract.specs.Calls.{Contexts}
use Rattle.sa_abstract.specs.Setting.{Setting}
use Rattle.sa_package_model.proofs.Changing.{IsJoin, other_hand, name_none, name_full}
use Rattle.sa_package_model.proofs.Holding.{own_below}
use Rattle.sa_package_model.proofs.TakeRule.{took_over-join}
use Rattle.sa_package_model.specs.Context.{carried_by, section_in, before_all}
use Rattle.sa_package_model.specs.Hands.{sections_of, threads_of, name_of}
use Rattle.sa_package_model.specs.Rules.{placed, load, thread_alone, took_over}
use Rattle.sa_package_model.specs.Stands.{IsStanding}
use Rattle.sa_package_model.specs.declared.context.Context.{Context}
use Rattle.sa_package_model.specs.declared.context.ContextState.TheVariants.{Work}
use Rattle.sa_package_model.specs.declared.package.Package.{Package}
use Rattle.sa_laws.specs.Life.{Life, inherits, bereft, inherited}
use Rattle.sa_laws.specs.Readings.{Readings, running_of, life_of, untold_of, load_of, stopped_thread, untold_thread}
use Rattle.sa_laws.specs.Record.{after_record, same_note, is_other_note, handed}
use Rattle.sa_laws.specs.State.{space_at, thread_in, active_threads}
use Rattle.sa_laws.specs.declared.place.Place.TheVariants as place
use Rattle.sa_fast_laws.proofs.relation.Hands.{split, held-append, count-less}
use Rattle.sa_fast_laws.proofs.relation.InCode.{before-less}
use Rattle.sa_lemmas.proofs.Searches.{any-contained}
use Rattle.sa_fast_laws.proofs.relation.Notices.{tells, back-alone, any-filter, sum-without, count-without, count-contained, contained-fails, note_of, same-self, of-self, other-passes, told-once, told-none}
use Rattle.sa_fast_laws.proofs.relation.OneLife.{carried_one, carried_has, other-life}
use Rattle.sa_fast_laws.proofs.relation.Places.{block-here, block-there, loaded-placed, SameThreads, sum_same}
use Rattle.sa_fast_laws.proofs.relation.ThreadsBeside.{life-here}
use Rattle.sa_fast_laws.specs.FastFits.{is_of, FitsThread, FitsShared, Holds}
use Rattle.sa_fast_laws.specs.Life.{lock_of, locks_from, locks_had, stopped_in, beside, carried, held, HasHand, HasLife, IsBare}
use Rattle.sa_fast_laws.specs.Stage.{stage_by, stage_on, stage_of, is_gone, is_act, is_running, place_of, kept_of, Runs, Stopped, Returned}
use Rattle.sa_fast_laws.specs.View.{view, in_copy}

inherited-map : (fs : List Frame) → map inherited (map (lock_of true) fs) ≡ map (lock_of true) fs
inherited-map [] = refl
inherited-map (f ∷ fs) = ap (λ ls. lock_of true f ∷ ls) (inherited-map fs)

inherited-from : (copy : Bool) (o : Option Frame) (fs : List Frame) → map inherited (locks_from copy o fs) ≡ map (lock_of true) (before_all o fs)
inherited-from copy None fs = inherited-map fs
inherited-from copy (Some f) fs = ap (λ ls. lock_of true f ∷ ls) (inherited-map fs)

-- the other one's thread is Carried from now on
abbrev loaded_if : List Block → Option ThreadNo → ℕ
loaded_if x None = 0
loaded_if x (Some n) = one_where (is_loaded (block_at x n.0).place)

record IsOver (x y : List Block) (t : Option ThreadNo) : Type 0 where
  pub here : (n : ThreadNo) → t ≡ Some n → block_at y n.0 ≡ moved_to (block_at x n.0) fast.Carried
  pub there : (n : ℕ) → ((m : ThreadNo) → t ≡ Some m → n ≢ m.0) → block_at y n ≡ block_at x n
  pub load : loaded y + loaded_if x t ≡ loaded x

over-once : (x : Shared) (t : ThreadNo) → t.0 < length x.threads → IsOver x.threads (placed x (Some t) fast.Carried).threads (Some t)
over-once x t inside = record {
  here =
      λ n at. subst (λ m. block_at (placed x (Some t) fast.Carried).threads m.0 ≡ moved_to (block_at x.threads m.0) fast.Carried) (same_Some t n at)
      (block-here x t fast.Carried inside);
  there = λ n other. block-there x t fast.Carried n (other t refl);
  load = let all = loaded-placed x t fast.Carried inside in omega arith;
}

over : (x : Shared) (own : Option Frame) (t : Option ThreadNo) → ((n : ThreadNo) → t ≡ Some n → n.0 < length x.threads)
    → IsOver x.threads (placed (placed x t fast.Carried) (thread_alone own t) fast.Carried).threads t
over x None None inside = record { here = λ n at. absurd cc; there = λ n other. refl; load = omega arith }
over x (Some f) None inside = record { here = λ n at. absurd cc; there = λ n other. refl; load = omega arith }
over x (Some f) (Some t) inside = over-once x t (inside t refl)
over x None (Some t) inside =
    let first = over-once x t (inside t refl) in
    let y = placed x (Some t) fast.Carried in
    let within : t.0 < length y.threads =
    (let same = length-set x.threads t.0 (moved_to (block_at x.threads t.0) fast.Carried) in let less = inside t refl in omega arith) in
    let second = over-once y t within in
    record {
      here = λ n at. second.here n at ∙ ap (λ b. moved_to b fast.Carried) (first.here n at);
      there = λ n other. second.there n other ∙ first.there n other;
      load =
          let now : one_where (is_loaded (block_at y.threads t.0).place) ≡ 0 =
          ap (λ (b : Block). one_where (is_loaded b.place)) (first.here t refl) in
          let one = first.load in let two = second.load in omega arith;
    }

module _ (set : Setting) (e : ℕ) (u : Package) (cs : Contexts Context) (h : IsStanding set e u cs) (s : SpaceNo) (r : Readings) (k : Holds s r u cs)
    (a b : ActNo) (ss : List Frame) (wk : Option ThreadNo) (d : Context) (is : cs a.0 ≡ Some (record { state = Work None; sections = ss; work = wk }))
    (theirs : cs b.0 ≡ Some d) (differ : b.0 ≢ a.0)
    (w : WorkloadView) (number : ℕ) (p : ProcNo) (mine from : Life) (here : life_of r a ≡ Some mine) (there : life_of r b ≡ Some from)
    (upped : r.upped ≡ Some a)
    (stage_a : stage_of r s a mine ≡ Runs) (kind : Bool) (told : Contains (untold_of r s) (note_of kind b)) where
  abbrev c : Context
  c = record { state = Work None; sections = ss; work = wk }

  abbrev new : Context
  new = (took_over u c d).ctx

  abbrev v : Package
  v = (took_over u c d).user

  abbrev ds : Contexts Context
  ds = put (put cs a.0 (Some new)) b.0 None

  abbrev q : Readings
  q = after_record w number p r (Told (note_of kind b))

  join : IsJoin set e u v c d new
  join = took_over-join set e u cs h a.0 b.0 c d is theirs differ

  la : HasLife s u.shared (space_at r.state s) (stage_of r s a mine) (view c) mine
  la = life-here s r u cs k a c mine is here

  lb : HasLife s u.shared (space_at r.state s) (stage_of r s b from) (view d) from
  lb = life-here s r u cs k b d from theirs there

  -- the readings, whatever the notice is
  record IsTold (kd : Bool) (x : Readings) : Type 0 where
    pub state : x.state ≡ r.state
    pub ready : x.ready ≡ r.ready
    pub running : x.running ≡ r.running
    pub untold : untold_of x s ≡ filter (is_other_note (note_of kd b)) (untold_of r s)
    pub lives : x.lives ≡ handed r.upped b (life_of r b) r.lives

  is_told : IsTold kind q
  is_told = by kind where
    by : (kd : Bool) → IsTold kd (after_record w number p r (Told (note_of kd b)))
    by true =
        record { state = refl; ready = refl; running = refl; untold = map-list (filter (is_other_note (Preempted b))) r.untold s.0 refl; lives = refl }
    by false =
        record { state = refl; ready = refl; running = refl; untold = map-list (filter (is_other_note (Unblocked b))) r.untold s.0 refl; lives = refl }

  pub told-ready : q.ready ≡ r.ready
  told-ready = is_told.ready

  -- the other life is gone
  gone : (kd : Bool) → kd ≡ kind
      → ((is_gone (stage_of r s b from) ≡ true) × (is_running (stage_of r s b from) ≡ false)) ×
      (place_of (stage_of r s b from) from.proc ≡ place.Carried)
      × (one_where (is_loaded (kept_of (stage_of r s b from))) ≡ (if kd then 1 else 0))
  gone true same =
      let here : list_any (same_note (Preempted b)) (untold_of r s) ≡ true =
      any-contained (same_note (Preempted b)) (Preempted b) (untold_of r s) (subst (λ z. Contains (untold_of r s) (note_of z b)) (sym same) told)
      (same-self true b) in
      let is_stopped : stage_of r s b from ≡ Stopped =
      ap (λ x. stage_by x (list_any (same_note (Unblocked b)) (untold_of r s)) (is_act b (running_of r from.proc))) here in
      ((ap is_gone is_stopped, ap is_running is_stopped), ap (λ g. place_of g from.proc) is_stopped, ap (λ g. one_where (is_loaded (kept_of g))) is_stopped)
  gone false same =
      let none = back-alone kind b (untold_of r s) told (k.single b) (sym same) in
      let here : list_any (same_note (Unblocked b)) (untold_of r s) ≡ true =
      any-contained (same_note (Unblocked b)) (Unblocked b) (untold_of r s) (subst (λ z. Contains (untold_of r s) (note_of z b)) (sym same) told)
      (same-self false b) in
      let is_back : stage_of r s b from ≡ Returned =
      ap (λ x. stage_by x (list_any (same_note (Unblocked b)) (untold_of r s)) (is_act b (running_of r from.proc))) none
      ∙ ap (λ x. stage_by false x (is_act b (running_of r from.proc))) here in
      ((ap is_gone is_back, ap is_running is_back), ap (λ g. place_of g from.proc) is_back, ap (λ g. one_where (is_loaded (kept_of g))) is_back)

  below : (n : ThreadNo) → carried_by d.state ≡ Some n → n.0 < length u.shared.threads
  below n at = let less = own_below set e u cs h b.0 d theirs n.0 (carried_has u.shared.works d n at) in let all = h.parts.blocks in omega arith

  moved : IsOver u.shared.threads v.shared.threads (carried_by d.state)
  moved = over u.shared (section_in d.state) (carried_by d.state) below

  kept_there : (n : ThreadNo) → carried (view d) n.0 ≡ 0 → place_at v.shared n.0 ≡ place_at u.shared n.0
  kept_there n none =
      ap (λ (x : Block). x.place)
      (moved.there n.0 (λ m at same. absurd
      (let one = carried_one d m at in let at_m : carried (view d) m.0 ≡ 0 = subst (λ x. carried (view d) x ≡ 0) same none in omega arith)))

  kept_here : (n : ThreadNo) → 1 ≤ carried (view d) n.0 → place_at v.shared n.0 ≡ fast.Carried
  kept_here n some = by (carried_by d.state) refl where
    by : (o : Option ThreadNo) → carried_by d.state ≡ o → place_at v.shared n.0 ≡ fast.Carried
    by None at = absurd (let none : carried (view d) n.0 ≡ 0 = ap (λ o. one_of o n.0) at in omega arith)
    by (Some m) at = elim (cases_eq m.0 n.0) [
      | inl same ↦ subst (λ j. place_at v.shared j ≡ fast.Carried) same (ap (λ (x : Block). x.place) (moved.here m at))
      | inr ne ↦ absurd (let none : carried (view d) n.0 ≡ 0 = ap (λ o. one_of o n.0) at ∙ one_other m.0 n.0 ne in omega arith)
    ]

  -- the space
  space_now : FitsShared v.shared (space_at r.state s)
  space_now = record {
    made = k.space.made;
    threads = λ n less. elim (cases_lt (carried (view d) n.0) 1) [
      | inl none ↦
          subst (λ x. FitsThread x (thread_in (space_at r.state s) n))
          (sym (moved.there n.0
          (λ m at same. absurd (let one = carried_one d m at in let at_m : carried (view d) m.0 < 1 = subst (λ x. carried (view d) x < 1) same none in
          omega arith)))) (k.space.threads n less)
      | inr some ↦ by n less some (carried_by d.state) refl
    ];
    sync = k.space.sync;
  } where
    by : (n : ThreadNo) → n.0 < u.shared.state.lists.made → 1 ≤ carried (view d) n.0 → (o : Option ThreadNo) → carried_by d.state ≡ o
        → FitsThread (block_at v.shared.threads n.0) (thread_in (space_at r.state s) n)
    by n less some None at = absurd (let none : carried (view d) n.0 ≡ 0 = ap (λ o. one_of o n.0) at in omega arith)
    by n less some (Some m) at = elim (cases_eq m.0 n.0) [
      | inl same ↦
          let is_m : m ≡ n = ap (λ j. record { 0 = j }) same in
          subst (λ x. FitsThread x (thread_in (space_at r.state s) n)) (sym (moved.here n (at ∙ ap Some is_m)))
          (let was = k.space.threads n less in
          record { program = was.program; pc = was.pc; regs = was.regs; place = lb.place n (at ∙ ap Some is_m) ∙ (gone kind refl).1 })
      | inr ne ↦ absurd (let none : carried (view d) n.0 ≡ 0 = ap (λ o. one_of o n.0) at ∙ one_other m.0 n.0 ne in omega arith)
    ]

  -- lives
  lives_are : q.lives ≡ put (put r.lives b.0 (Some (bereft from))) a.0 (Some (inherits from mine))
  lives_are =
      is_told.lives ∙ ap (λ o. handed o b (life_of r b) r.lives) upped ∙ ap (λ o. handed (Some a) b o r.lives) there
      ∙ ap (λ o. let ls = put r.lives b.0 (option_map bereft o) in put ls a.0 (option_map (inherits from) (ls a.0))) there
      ∙ ap (λ o. put (put r.lives b.0 (Some (bereft from))) a.0 (option_map (inherits from) o))
      (put-other r.lives b.0 a.0 (Some (bereft from)) (λ x. differ (sym x)) ∙ here)

  pub live_a : q.lives a.0 ≡ Some (inherits from mine)
  live_a = ap (λ (f : ℕ → Option Life). f a.0) lives_are ∙ put-same (put r.lives b.0 (Some (bereft from))) a.0 (Some (inherits from mine))

  live_b : q.lives b.0 ≡ Some (bereft from)
  live_b = ap (λ (f : ℕ → Option Life). f b.0) lives_are ∙ put-other (put r.lives b.0 (Some (bereft from))) a.0 b.0 (Some (inherits from mine)) differ
      ∙ put-same r.lives b.0 (Some (bereft from))

  pub live_x : (x : ℕ) → x ≢ a.0 → x ≢ b.0 → q.lives x ≡ r.lives x
  live_x x na nb = ap (λ (f : ℕ → Option Life). f x) lives_are ∙ put-other (put r.lives b.0 (Some (bereft from))) a.0 x (Some (inherits from mine)) na
      ∙ put-other r.lives b.0 x (Some (bereft from)) nb

  same_threads : SameThreads r q
  same_threads x = elim (cases_eq x.0 a.0) [
    | inl e ↦ ap stopped_thread (ap q.lives e ∙ live_a) ∙ sym (ap stopped_thread (ap r.lives e ∙ here))
    | inr na ↦ elim (cases_eq x.0 b.0) [
      | inl e ↦ ap stopped_thread (ap q.lives e ∙ live_b) ∙ sym (ap stopped_thread (ap r.lives e ∙ there))
      | inr nb ↦ ap stopped_thread (live_x x.0 na nb)
    ]
  ]

  -- the load: a stop that is told no longer counts
  told_value : (kd : Bool) → kd ≡ kind → (m : Note) → tells (note_of kd b) m ≡ true → untold_thread r m ≡ untold_thread r (note_of kd b)
  told_value true same (Preempted x) is_it = ap (λ n. stopped_thread (r.lives n)) (eqb-true x.0 b.0 is_it)
  told_value false same (Unblocked x) is_it = refl
  told_value _ same _ is_it = absurd cc

  note_value : (kd : Bool) → kd ≡ kind → untold_thread r (note_of kd b) ≡ loaded_if u.shared.threads (carried_by d.state)
  note_value kd same = by kd same (carried_by d.state) refl where
    by : (kd : Bool) → kd ≡ kind → (o : Option ThreadNo) → carried_by d.state ≡ o → untold_thread r (note_of kd b) ≡ loaded_if u.shared.threads o
    by true same None at = ap stopped_thread there ∙ ap (λ t. if is_none t then 0 else 1) (lb.named (gone true same).0.1 ∙ at)
    by true same (Some n) at = ap stopped_thread there ∙ ap (λ t. if is_none t then 0 else 1) (lb.named (gone true same).0.1 ∙ at)
        ∙ sym (ap (λ x. one_where (is_loaded x)) (lb.kept n at) ∙ (gone true same).2)
    by false same None at = refl
    by false same (Some n) at = sym (ap (λ x. one_where (is_loaded x)) (lb.kept n at) ∙ (gone false same).2)

  load_now : load_of q s ≡ load v
  load_now =
      let ns = untold_of r s in
      let drop =
      sum-without (tells (note_of kind b)) (untold_thread r) (untold_thread r (note_of kind b)) ns (told_value kind refl)
      (told-once kind b ns told (k.single b)) in
      let left : sum_by (untold_thread q) (untold_of q s) ≡ sum_by (untold_thread r) (filter (is_other_note (note_of kind b)) ns) =
      ap (sum_by (untold_thread q)) is_told.untold ∙ sum_same r q same_threads (filter (is_other_note (note_of kind b)) ns) in
      let active : active_threads (space_at q.state s) ≡ active_threads (space_at r.state s) =
      ap (λ x. active_threads (space_at x s)) is_told.state in
      let value = note_value kind refl in
      let loads : load v + loaded_if u.shared.threads (carried_by d.state) ≡ load u = moved.load in
      let was = k.load in
      omega arith

  -- what the two had, one has
  total : (n : ℕ) → threads_of v.shared.works (Some new) n ≡ threads_of u.shared.works (Some c) n + threads_of u.shared.works (Some d) n
  total n = let all = join.threads n in let same : threads_at_rest v.shared n ≡ threads_at_rest u.shared n = refl in omega arith

  beside_all : (n : ℕ) → beside v.shared.works (view new) n ≡ beside u.shared.works (view c) n + beside u.shared.works (view d) n + carried (view d) n
  beside_all n =
      let all = total n in let one = split v.shared.works new n in let two = split u.shared.works c n in let three = split u.shared.works d n in
      let none : carried (view new) n ≡ 0 = refl in let no : carried (view c) n ≡ 0 = refl in omega arith

  locks_all : (inherits from mine).locks ≡ locks_had (view new)
  locks_all =
      ap (λ ls. ls ++ map inherited from.locks) la.locks
      ∙ ap (λ ls. map (lock_of true) ss ++ ls) (ap (map inherited) lb.locks ∙ inherited-from (in_copy d.state) (section_in d.state) d.sections)
      ∙ sym (map-append (lock_of true) ss (sections_of d))

  hand_all : (g : Bool) → g ≡ false → HasHand v.shared.works (view new) g (inherits from mine).hand
  hand_all g not_gone = record {
    all = λ n some. elim (cases_lt (beside u.shared.works (view c) n) 1) [
      | inl none ↦ elim (cases_lt (beside u.shared.works (view d) n) 1) [
        | inl few ↦ let sum = held-append mine.hand from.hand n in let all = beside_all n in
            let one = lb.hand.own (gone kind refl).0.0 n (omega arith) in omega arith
        | inr more ↦ let sum = held-append mine.hand from.hand n in let one = lb.hand.all n more in omega arith
      ]
      | inr more ↦ let sum = held-append mine.hand from.hand n in let one = la.hand.all n more in omega arith
    ];
    own = λ is_gone n some. absurd (omega arith);
    only = λ n some. elim (cases_lt (held mine.hand n) 1) [
      | inl none ↦
          let sum = held-append mine.hand from.hand n in let has = lb.hand.only n (omega arith) in
          let less = count-less (is_gone (stage_of r s b from) || in_copy d.state) (carried (view d) n) in let all = beside_all n in omega arith
      | inr more ↦
          let has = la.hand.only n more in
          let less = count-less (is_gone (stage_of r s a mine) || false) (carried (view c) n) in let no : carried (view c) n ≡ 0 = refl in
          let all = beside_all n in omega arith
    ];
  }

  -- sections to continue: those of both, and the other one's own
  stopped_append : (fs gs : List Frame) (n : ℕ) → stopped_in (fs ++ gs) n ≡ stopped_in fs n + stopped_in gs n
  stopped_append [] gs n = omega arith
  stopped_append (f ∷ fs) gs n = let rest = stopped_append fs gs n in omega arith

  stopped_before : (n : ℕ) → stopped_in (sections_of d) n ≤ carried (view d) n + stopped_in d.sections n
  stopped_before n = before-less d n

  stopped_now : (n : ThreadNo) → 1 ≤ stopped_in new.sections n.0 → place_at v.shared n.0 ≡ fast.Carried
  stopped_now n some = elim (cases_lt (carried (view d) n.0) 1) [
    | inr more ↦ kept_here n more
    | inl none ↦ kept_there n (omega arith) ∙ elim (cases_lt (stopped_in ss n.0) 1) [
      | inr mine_it ↦ la.stopped n mine_it
      | inl few ↦ lb.stopped n (let all = stopped_append ss (sections_of d) n.0 in let less = stopped_before n.0 in omega arith)
    ]
  ]

  pub stage_kept : (x : ActNo) (y : ProcNo) → x.0 ≢ b.0 → stage_on q s x y ≡ stage_on r s x y
  stage_kept x y ne =
      let ns = untold_of r s in let other = is_other_note (note_of kind b) in
      ap (λ ms. stage_by (list_any (same_note (Preempted x)) ms) (list_any (same_note (Unblocked x)) ms) (is_act x (running_of q y))) is_told.untold
      ∙ ap (λ z. stage_by z (list_any (same_note (Unblocked x)) (filter other ns)) (is_act x (running_of q y)))
      (any-filter (same_note (Preempted x)) other ns (other-passes kind b true x ne))
      ∙ ap (λ z. stage_by (list_any (same_note (Preempted x)) ns) z (is_act x (running_of q y)))
      (any-filter (same_note (Unblocked x)) other ns (other-passes kind b false x ne))
      ∙ ap
      (λ ps. stage_by (list_any (same_note (Preempted x)) ns) (list_any (same_note (Unblocked x)) ns) (is_act x (slice_index_or ps y.0 None))) is_told.running

  a_not_b : a.0 ≢ b.0
  a_not_b x = differ (sym x)

  pub stage_now : stage_of q s a (inherits from mine) ≡ Runs
  stage_now = stage_kept a mine.proc a_not_b ∙ stage_a

  mine_now : HasLife s v.shared (space_at q.state s) (stage_of q s a (inherits from mine)) (view new) (inherits from mine)
  mine_now = record {
    space = la.space;
    locks = locks_all;
    cont = la.cont;
    hand = hand_all (is_gone (stage_of q s a (inherits from mine))) (ap is_gone stage_now);
    place = λ n at. absurd cc;
    kept = λ n at. absurd cc;
    stopped = stopped_now;
    named = λ no. absurd (let yes : is_running (stage_of q s a (inherits from mine)) ≡ true = ap is_running stage_now in cc);
  }

  ds_a : ds a.0 ≡ Some new
  ds_a = put-other (put cs a.0 (Some new)) b.0 a.0 None a_not_b ∙ put-same cs a.0 (Some new)

  ds_b : ds b.0 ≡ None
  ds_b = put-same (put cs a.0 (Some new)) b.0 None

  ds_x : (x : ℕ) → x ≢ a.0 → x ≢ b.0 → ds x ≡ cs x
  ds_x x na nb = put-other (put cs a.0 (Some new)) b.0 x None nb ∙ put-other cs a.0 x (Some new) na

  still_some : (x : ℕ) → x ≢ b.0 → IsSome (cs x) → IsSome (ds x)
  still_some x nb some = elim (cases_eq x a.0) [
    | inl e ↦ subst IsSome (sym (ap ds e ∙ ds_a)) refl
    | inr na ↦ subst IsSome (sym (ds_x x na nb)) some
  ]

  -- another context
  apart_d : (x : ℕ) (y : Context) → cs x ≡ Some y → x ≢ b.0 → (n : ℕ) → 1 ≤ threads_of u.shared.works (Some y) n → carried (view d) n ≡ 0
  apart_d x y at nb n has = elim (cases_lt (carried (view d) n) 1) [
    | inl less ↦ omega arith
    | inr more ↦ absurd (nb (h.threads.apart x b.0 n (subst (λ z. 1 ≤ threads_of u.shared.works z n) (sym at) has)
        (subst (λ z. 1 ≤ threads_of u.shared.works z n) (sym theirs) (let all = split u.shared.works d n in omega arith))))
  ]

  beside_other : (x : ℕ) (y : Context) → cs x ≡ Some y → x ≢ a.0 → x ≢ b.0 → (n : ℕ)
      → beside v.shared.works (view y) n ≡ beside u.shared.works (view y) n
  beside_other x y at na nb n =
      let same = other_hand set e u cs h v.shared.works x (Some y) at
      (λ l some. let has : 1 ≤ name_of (cs x) l = subst (λ z. 1 ≤ name_of z l) (sym at) some in
      join.works l (ap (λ z. name_of z l) (sym is) ∙ name_none set e u cs h a.0 x l na has)
      (ap (λ z. name_of z l) (sym theirs) ∙ name_none set e u cs h b.0 x l nb has) (name_full set e u cs h x l has)) n in
      let one = split u.shared.works y n in let two = split v.shared.works y n in omega arith

  pub told-holds : Holds s q v ds
  told-holds = record {
    space = subst (λ x. FitsShared v.shared (space_at x s)) (sym is_told.state) space_now;
    load = load_now;
    lives = λ x y at. elim (cases_eq x.0 a.0) [
      | inl e ↦
          let one : y ≡ new = same_Some y new (sym at ∙ ap ds e ∙ ds_a) in
          let act : x ≡ a = ap (λ j. record { 0 = j }) e in (
            inherits from mine,
            ap q.lives e ∙ live_a,
            subst (λ z. HasLife s v.shared (space_at q.state s) (stage_of q s z (inherits from mine)) (view y) (inherits from mine)) (sym act)
                (subst (λ z. HasLife s v.shared (space_at q.state s) (stage_of q s a (inherits from mine)) (view z) (inherits from mine)) (sym one) mine_now),
          )
      | inr na ↦ elim (cases_eq x.0 b.0) [
        | inl e ↦ absurd (none-some y (sym ds_b ∙ ap ds (sym e) ∙ at))
        | inr nb ↦
            let old : cs x.0 ≡ Some y = sym (ds_x x.0 na nb) ∙ at in
            let was = k.lives x y old in (
              was.0,
              live_x x.0 na nb ∙ was.1,
              subst (λ g. HasLife s v.shared (space_at q.state s) g (view y) was.0) (sym (stage_kept x was.0.proc nb))
                  (other-life s u.shared v.shared (space_at r.state s) (space_at q.state s) (stage_of r s x was.0) y was.0 (beside_other x.0 y old na nb)
                  (λ n has. ap (λ z. (thread_in (space_at z s) n).place) is_told.state)
                  (λ n has. kept_there n (apart_d x.0 y old nb n.0 has)) was.2),
            )
      ]
    ];
    others = λ x life at its none. elim (cases_eq x.0 b.0) [
      | inl e ↦
          let one : life ≡ bereft from = same_Some life (bereft from) (sym at ∙ ap q.lives e ∙ live_b) in
          subst IsBare (sym one) (record { locks = refl; cont = refl; hand = refl; inside = refl })
      | inr nb ↦ elim (cases_eq x.0 a.0) [
        | inl e ↦ absurd (none-some new (sym none ∙ ap ds e ∙ ds_a))
        | inr na ↦ k.others x life (sym (live_x x.0 na nb) ∙ at) its (sym (ds_x x.0 na nb) ∙ none)
      ]
    ];
    noted = λ x there_is. elim there_is [
      | inl stop ↦ noted_by x true stop
      | inr back ↦ noted_by x false back
    ];
    single =
        λ x. subst (λ ms. count_by (is_of x) ms ≤ 1) (sym is_told.untold)
        (let less = count-without (tells (note_of kind b)) (is_of x) (untold_of r s) in let was = k.single x in omega arith);
    runs = λ y x life at its mine_it.
        let at_r : running_of r y ≡ Some x = sym (ap (λ ps. slice_index_or ps y.0 None) is_told.running) ∙ at in
        elim (cases_eq x.0 a.0) [
          | inl e ↦
              let act : x ≡ a = ap (λ j. record { 0 = j }) e in
              let one : life ≡ inherits from mine = same_Some life (inherits from mine) (sym its ∙ ap q.lives e ∙ live_a) in
              let old = k.runs y x mine at_r (ap r.lives e ∙ here) la.space in (
                still_some x.0 (λ f. a_not_b (sym e ∙ f)) old.0,
                ap (λ (z : Life). z.proc) one ∙ old.1,
                ap (λ z. stage_on q s z life.proc) act ∙ ap (λ (z : Life). stage_on q s a z.proc) one ∙ stage_now,
              )
          | inr na ↦ elim (cases_eq x.0 b.0) [
            | inl e ↦ absurd (
                let act : x ≡ b = ap (λ j. record { 0 = j }) e in
                let old = k.runs y x from at_r (ap r.lives e ∙ there) lb.space in
                let yes : is_running (stage_of r s b from) ≡ true = ap is_running (ap (λ z. stage_on r s z from.proc) (sym act) ∙ old.2) in
                let no = (gone kind refl).0.1 in cc)
            | inr nb ↦ let old =
                k.runs y x life at_r (sym (live_x x.0 na nb) ∙ its) mine_it in (still_some x.0 nb old.0, old.1, stage_kept x life.proc nb ∙ old.2)
          ]
        ];
  } where
    noted_by : (x : ActNo) (kd : Bool) → Contains (untold_of q s) (note_of kd x) → IsSome (ds x.0)
    noted_by x kd has =
        let left = subst (λ ms. Contains ms (note_of kd x)) is_told.untold has in
        let old = contained-fails (tells (note_of kind b)) (note_of kd x) (untold_of r s) left in
        let nb : x.0 ≢ b.0 = λ e. (
        let act : x ≡ b = ap (λ j. record { 0 = j }) e in
        let some =
        count-contained (is_of b) (note_of kd x) (filter (is_other_note (note_of kind b)) (untold_of r s)) left
        (ap (λ z. is_of b (note_of kd z)) act ∙ of-self kd b) in
        let none = told-none kind b (untold_of r s) told (k.single b) in omega arith) in
        still_some x.0 nb (k.noted x (by kd old.0)) where
          by : (z : Bool) → Contains (untold_of r s) (note_of z x) → Contains (untold_of r s) (Preempted x) ⊎ Contains (untold_of r s) (Unblocked x)
          by true there_is = inl there_is
          by false there_is = inr there_is
