-- A placed virtual processor makes the first thread of its work list ready; and takes a ready thread.
use Rattle.std.proofs.Common.{◌≡◌, ◌≢◌, ℕ, ◌+◌, ◌*◌, ◌<◌, ◌≤◌, Bool, true, false, cond, eqb, nat_lt, ◌&&◌, List, [], ◌∷◌, ◌++◌, length, filter, get_or, set, Option, Some, None, inl, inr, refl, sym, ap, subst, ◌∙◌, arith}
use Rattle.std.proofs.lemmas.Bool.{cases_eq, cases_lt, ne_eqb, eq-eqb, ltb-true, or_right}
use Rattle.std.proofs.lemmas.List.{length-set, get_or-set_same, get_or-set_other, get_or_past}
use Rattle.std.proofs.lemmas.Option.{same_Some}
use Rattle.std.proofs.lemmas.List.Sums.{sum_by-cons, get_or-le-sum_by}
use Rattle.sa_base.specs.declared.number.ProcNo.{ProcNo}
use Rattle.sa_base.specs.declared.number.SpaceNo.{SpaceNo}
use Rattle.sa_base.specs.declared.number.ThreadNo.{ThreadNo}
use Rattle.sa_base.specs.declared.number.ActNo.{ActNo}
use Rattle.sa_base.specs.declared.limits.TheConstants.{MAX_PROCESSORS}
use Rattle.sa_spaces.specs.Workload.{WorkloadView}
use Rattle.sa_links.specs.Lists.{count_in}
use Rattle.sa_sync.specs.Sync.{waits_of}
use Rattle.sa_lemmas.specs.Function.{put}
use Rattle.sa_laws.specs.declared.place.Place.{Place}
use Rattle.sa_laws.specs.declared.place.Place.TheVariants as places
use Rattle.sa_laws.specs.State.{SpaceState, Runner, placed, thread_at, owner_at, is_due}
use Rattle.sa_laws.specs.Readings.{Listed}
use Rattle.sa_laws.specs.Record.{is_other_thread}
use Rattle.sa_laws.specs.Step.{CanBeReady, NobodyRuns}
use Rattle.sa_replay.specs.Running.{can_move, is_running, is_settled}
use Rattle.sa_replay.specs.Spaces.{space_in, place_in}
use Rattle.sa_replay.specs.Index.{runner_at}
use Rattle.sa_replay.proofs.IndexLemmas.{runner, index-finds}
use Rattle.sa_replay.proofs.ReplayLemmas.{put_kept, enter_kept}
use Rattle.sa_virtual.specs.Virtual.{space_of, list_of}
use Rattle.sa_virtual.specs.Holding.{Parts, Holds, counts_of, threads_of, on_processors, is_one, listed, worked, numbers, one_if, one_where, kind}
use Rattle.sa_virtual.proofs.Agree.{if_at, at_self, at_space, at_thread, Moves, moved}
use Rattle.sa_virtual.proofs.Sums.{at_none, work_past, work_here}
use Rattle.sa_virtual.proofs.Kept.{sized_put, within_put, is_ready, settled_moves}
use Rattle.sa_virtual.proofs.Steps.{waits_there, due_there, listed_more, listed_less}

pub one_here : (s t u : ℕ) → if_at s t s u 1 ≡ one_if t u
one_here s t u = elim (cases_eq u t) [
  | inl e ↦ ap (λ n. if_at s t s n 1) e ∙ at_self s t 1 ∙ sym (ap (λ b. cond b 1 0) (eq-eqb t u (sym e)))
  | inr ne ↦ at_thread s t s u 1 ne ∙ sym (ap (λ b. cond b 1 0) (ne_eqb t u (λ e. ne (sym e))))
]

-- the number of a virtual processor
pub number_is : (a : ActNo) → a.0 ≡ MAX_PROCESSORS * (space_of a).0 + (list_of a).0
number_is a = omega arith

pub number_other : (a : ActNo) (r k : ℕ) → r ≢ (space_of a).0 → k < MAX_PROCESSORS → MAX_PROCESSORS * r + k ≢ a.0
number_other a r k ne below is = absurd (ne (omega (arith, is, below)))

pub both_true : (b c : Bool) → 1 ≤ one_where (b && c) → (b ≡ true) × (c ≡ true)
both_true true true some = (refl, refl)
both_true _ _ some = absurd (omega (arith, some))

-- one that comes to run on a processor
pub entered : (runners : List (Option Runner)) (placed : List (Option ActNo)) (p q : ProcNo) (y : Runner) (a : ActNo) (x : Runner)
    → get_or placed p.0 None ≡ Some a → y.space ≡ space_of a
    → runner_at (set runners p.0 (Some y)) q ≡ Some x
    → (runner_at runners q ≡ Some x → (b : ActNo) × (get_or placed q.0 None ≡ Some b) × (x.space ≡ space_of b))
    → (b : ActNo) × (get_or placed q.0 None ≡ Some b) × (x.space ≡ space_of b)
entered runners placed p q y a x at of is old = elim (cases_eq q.0 p.0) [
  | inl e ↦ elim (cases_lt p.0 (length runners)) [
    | inl within ↦
        let same : y ≡ x = same_Some _ _
        (sym (get_or-set_same runners p.0 (Some y) None within) ∙ sym (ap (λ n. get_or (set runners p.0 (Some y)) n None) e) ∙ is) in
        (a, ap (λ n. get_or placed n None) e ∙ at, sym (ap (λ (z : Runner). z.space) same) ∙ of)
    | inr past ↦ let none : get_or (set runners p.0 (Some y)) q.0 None ≡ None =
        get_or_past (set runners p.0 (Some y)) q.0 None (omega (arith, e, past, length-set runners p.0 (Some y))) in
        let both : None ≡ Some x = sym none ∙ is in cc
  ]
  | inr ne ↦ old (sym (get_or-set_other runners p.0 q.0 (Some y) None ne) ∙ is)
]

pub due_moves : (spaces : List SpaceState) (s : SpaceNo) (t : ThreadNo) → is_due (space_in spaces s) t ≡ true → can_move (space_in spaces s) t ≡ true
due_moves spaces s t due = or_right (is_settled (place_in spaces s t)) (is_due (space_in spaces s) t) due

-- what is placed is a virtual processor
module _ (w : WorkloadView) (v : Parts) (runners : List (Option Runner)) (h : Holds w v runners) (p : ProcNo) (a : ActNo)
    (at : get_or v.placed p.0 None ≡ Some a) where
  pub placed_within : p.0 < length v.placed
  placed_within = elim (cases_lt p.0 (length v.placed)) [
    | inl within ↦ within
    | inr past ↦ let both : None ≡ Some a = sym (get_or_past v.placed p.0 None past) ∙ at in cc
  ]

  pub placed_once : 1 ≤ on_processors v.placed a.0
  placed_once =
      let one : one_where (is_one a.0 (get_or v.placed p.0 None)) ≡ 1 =
      ap (λ (o : Option ActNo). one_where (is_one a.0 o)) at ∙ ap one_where (eq-eqb a.0 a.0 refl) in
      omega (arith, one, get_or-le-sum_by (λ (x : Option ActNo). cond (is_one a.0 x) 1 0) v.placed p.0 None placed_within)

  pub known : ((space_of a).0 < length w.spaces) × ((list_of a).0 < w.processors)
  known =
      let both = both_true (nat_lt (space_of a).0 (length w.spaces)) (nat_lt (list_of a).0 w.processors) (omega (arith, placed_once, h.once a.0)) in
      (ltb-true (space_of a).0 (length w.spaces) both.0, ltb-true (list_of a).0 w.processors both.1)

  pub owned : owner_at v.state p ≡ Some (space_of a)
  owned = (h.fits p).owned a at

  abbrev s : SpaceNo
  s = space_of a

  abbrev threads : ℕ → Option ThreadNo
  threads = threads_of v.lives

  -- A PUSH
  module _ (few : w.processors ≤ MAX_PROCESSORS) (first : ThreadNo) (others : List ThreadNo) (work : v.work a.0 ≡ first ∷ others) where
    abbrev ready : List (List Listed)
    ready = set v.ready s.0 (get_or v.ready s.0 [] ++ record { thread = first; list = list_of a } ∷ [])

    abbrev pub pushed : Parts
    pushed = record v { state = placed v.state s first places.Ready; work = put v.work a.0 others; ready = ready }

    cons : (u : ℕ) → count_in u (numbers (v.work a.0)) ≡ one_if first.0 u + count_in u (numbers others)
    cons u = ap (λ (ts : List ThreadNo). count_in u (numbers ts)) work ∙ sum_by-cons (λ z. cond (eqb z u) 1 0) first.0 (numbers others)

    worked_less : (u : ℕ) → worked (put v.work a.0 others) w.processors s.0 u + one_if first.0 u ≡ worked v.work w.processors s.0 u
    worked_less u = omega (arith, work_here v.work a.0 others w.processors s.0 u (list_of a).0 known.1 (number_is a), cons u)

    works : (r u : ℕ) → worked (put v.work a.0 others) w.processors r u + if_at s.0 first.0 r u 1 ≡ worked v.work w.processors r u + if_at s.0 first.0 r u 0
    works r u = elim (cases_eq r s.0) [
      | inl e ↦ subst (λ n. worked (put v.work a.0 others) w.processors n u + if_at s.0 first.0 n u 1
          ≡ worked v.work w.processors n u + if_at s.0 first.0 n u 0) (sym e)
          (omega (arith, worked_less u, one_here s.0 first.0 u, at_none s.0 first.0 s.0 u))
      | inr ne ↦ omega (
        arith,
        at_none s.0 first.0 r u,
        at_space s.0 first.0 r u 1 ne,
        work_past v.work a.0 others w.processors r u (λ k below. number_other a r k ne (omega (arith, few, below))),
      )
    ]

    pub waits : (place_in v.state.spaces s first ≡ places.Waiting) × (waits_of (space_in v.state.spaces s).sync first.0 ≡ 0)
    waits =
        let one : one_if first.0 first.0 ≡ 1 = ap (λ b. cond b 1 0) (eq-eqb first.0 first.0 refl) in
        waits_there (place_in v.state.spaces s first) (waits_of (space_in v.state.spaces s).sync first.0) (worked v.work w.processors s.0 first.0)
        (h.agree s.0 first.0).in_work (omega (arith, worked_less first.0, one))

    due : is_due (space_in v.state.spaces s) first ≡ true
    due = due_there (place_in v.state.spaces s first) (waits_of (space_in v.state.spaces s).sync first.0) waits.0 waits.1

    pub push_needs : (owner_at v.state p ≡ Some s) × CanBeReady v.state s first
    push_needs = (owned, inr due)

    push_moves : Moves s.0 first.0 places.Waiting places.Ready (counts_of w.processors threads v) (counts_of w.processors threads pushed)
    push_moves = record {
      ready =
          λ r u. omega (
            arith,
            listed_more v.ready s (record { thread = first; list = list_of a }) r u (omega (arith, h.spaces, known.0)),
            at_none s.0 first.0 r u,
          );
      carries = λ r u. refl;
      blocks = λ r u. refl;
      works = works;
    }

    push_inside : s.0 < length v.state.spaces
    push_inside = omega (arith, h.replay.as_many, known.0)

    pub push_holds : Holds w pushed runners
    push_holds = record {
      replay =
          put_kept w v.state.spaces v.state.owners runners h.replay s first places.Ready (due_moves v.state.spaces s first due) (ap is_running waits.0) refl;
      owners = h.owners;
      sized = sized_put w v.state.spaces s first places.Ready push_inside h.sized;
      within = within_put w v.state.spaces s first places.Ready push_inside h.within;
      processors = h.processors;
      spaces = length-set v.ready s.0 (get_or v.ready s.0 [] ++ record { thread = first; list = list_of a } ∷ []) ∙ h.spaces;
      once = h.once;
      fits = h.fits;
      lives = h.lives;
      ios = h.ios;
      agree =
          moved (counts_of w.processors threads v) (counts_of w.processors threads pushed) v.state.spaces s first places.Waiting places.Ready h.agree waits.0
          (λ e. cc) push_moves;
    }

  -- A POP
  module _ (t : ThreadNo) (some : 1 ≤ listed v.ready s.0 t.0) (free : runner_at runners p ≡ None) where
    abbrev pub popped : Parts
    popped = record v { state = placed v.state s t (places.Running p); ready = set v.ready s.0 (filter (is_other_thread t) (get_or v.ready s.0 [])) }

    place : place_in v.state.spaces s t ≡ places.Ready
    place = is_ready (place_in v.state.spaces s t) (omega (arith, some, (h.agree s.0 t.0).in_lists))

    once : listed v.ready s.0 t.0 ≡ 1
    once = (h.agree s.0 t.0).in_lists ∙ ap (λ (q : Place). one_if (kind q) 1) place

    pub nobody : NobodyRuns v.state p
    nobody = sym (index-finds p v.state.spaces runners h.replay.index) ∙ free

    pub pop_needs : (owner_at v.state p ≡ Some s) × NobodyRuns v.state p × ((thread_at v.state s t).place ≡ places.Ready)
    pop_needs = (owned, nobody, place)

    pop_moves : Moves s.0 t.0 places.Ready (places.Running p) (counts_of w.processors threads v) (counts_of w.processors threads popped)
    pop_moves = record {
      ready = λ r u. omega (arith, listed_less v.ready s t r u (omega (arith, h.spaces, known.0)) once, at_none s.0 t.0 r u);
      carries = λ r u. refl;
      blocks = λ r u. refl;
      works = λ r u. refl;
    }

    pop_inside : s.0 < length v.state.spaces
    pop_inside = omega (arith, h.replay.as_many, known.0)

    pub pop_holds : Holds w popped (set runners p.0 (Some (runner s t)))
    pop_holds = record {
      replay =
          enter_kept w v.state.spaces v.state.owners runners h.replay p s t (settled_moves v.state.spaces s t places.Ready refl place) owned nobody
          (ap is_running place);
      owners = h.owners;
      sized = sized_put w v.state.spaces s t (places.Running p) pop_inside h.sized;
      within = within_put w v.state.spaces s t (places.Running p) pop_inside h.within;
      processors = h.processors;
      spaces = length-set v.ready s.0 (filter (is_other_thread t) (get_or v.ready s.0 [])) ∙ h.spaces;
      once = h.once;
      fits = λ q. record {
        owned = (h.fits q).owned;
        runs = λ x is. entered runners v.placed p q (runner s t) a x at refl is (λ same. (h.fits q).runs x same);
      };
      lives = h.lives;
      ios = h.ios;
      agree =
          moved (counts_of w.processors threads v) (counts_of w.processors threads popped) v.state.spaces s t places.Ready (places.Running p) h.agree place
          (λ e. cc) pop_moves;
    }
