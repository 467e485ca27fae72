-- An instruction of a context's thread leaves all standing.
use Rattle.std.proofs.Common.{◌≡◌, ℕ, ◌+◌, ◌≤◌, ◌<◌, Bool, true, false, cond, nat_lt, List, [], ◌∷◌, length, replicate, Option, Some, None, refl, sym, ap, ◌∙◌, subst, inl, inr, arith}
use Rattle.std.proofs.lemmas.Bool.{cases_lt}
use Rattle.sa_base.specs.declared.number.ThreadNo.{ThreadNo}
use Rattle.sa_base.specs.declared.limits.TheConstants.{MAX_THREADS}
use Rattle.sa_base.specs.declared.context.Seen.{Seen}
use Rattle.sa_base.specs.declared.record.Record.{Record}
use Rattle.sa_spaces.specs.Space.{IsSpace}
use Rattle.sa_abstract.specs.Setting.{Setting}
use Rattle.sa_abstract.specs.Calls.{Contexts}
use Rattle.sa_links.specs.Lists.{list_at, count_in, count_in_all}
use Rattle.sa_links.proofs.Counting.{count-replicate, count_at, empty_lists}
use Rattle.sa_sync.specs.Sync.{Sync, waits_of}
use Rattle.sa_fast.specs.declared.shared.Shared.{Shared}
use Rattle.sa_fast.specs.declared.threads.KeptPlace.{KeptPlace}
use Rattle.sa_fast.specs.declared.threads.KeptPlace.TheVariants.{Ready}
use Rattle.sa_fast.specs.declared.instruction.Ran.{Ran}
use Rattle.sa_fast.specs.declared.instruction.Ran.TheVariants.{Goes, Leaves, Blocks}
use Rattle.sa_fast.specs.Threads.{block_at}
use Rattle.sa_fast.specs.Work.{work_of, IsUnlisted}
use Rattle.sa_fast.specs.Instruction.{Outcome, run}
use Rattle.sa_fast.specs.Rest.{one_if, one_of, one_where, one_if_empty, empty_at, is_ready, is_unmade, is_carried, place_at, done_at, unmade_at, threads_at_rest, AreWorks, ArePartsFor, AgreesBy, AgreesAt as AgreesInList, not_carried}
use Rattle.sa_fast.proofs.Moves.{RunStep, PlaceStep, stays_with}
use Rattle.sa_fast.proofs.WorkSteps.{one_same}
use Rattle.sa_fast.proofs.RunSteps.{run-step}
use Rattle.sa_fast.proofs.PlaceSteps.{place-step}
use Rattle.sa_package_model.proofs.Parts.{parts_works, parts_later}
use Rattle.sa_driven_model.specs.declared.context.DrivenContext.{DrivenContext}
use Rattle.sa_driven_model.specs.declared.space.DrivenSpace.{DrivenSpace}
use Rattle.sa_driven_model.specs.Threads.{with_all}
use Rattle.sa_driven_model.specs.Context.{goes_on}
use Rattle.sa_driven_model.specs.Step.{after_run, ran_by, after_ins}
use Rattle.sa_driven_model.specs.Conditions.{IsAlone}
use Rattle.sa_driven_model.specs.Stands.{AgreesAt, IsSomewhere, ready_at, carried_of, IsStanding}
use Rattle.sa_driven_model.proofs.Sets.{in_set, with_all-counts, length-with_all}
use Rattle.sa_driven_model.proofs.Places.{at_most, carried_free, place_inside}
use Rattle.sa_driven_model.proofs.Ghost.{with_lists, AreAlike, run_alike, listed, count_listed, count_past, one_list}
use Rattle.sa_driven_model.proofs.Changing.{IsValue, IsChange}

module _ (s : Setting) (e : ℕ) (u : DrivenSpace) (cs : Contexts DrivenContext) (h : IsStanding s e u cs) where
  abbrev x : Shared
  x = u.base.shared

  -- nothing is in a list
  pub none_listed : (t : ℕ) → count_in_all t x.state.lists.lists ≡ 0
  none_listed t = ap (count_in_all t) h.unused.lists

  pub none_due : (t : ℕ) → IsUnlisted x.works t
  none_due t = ap (count_in_all t) h.unused.works ∙ count-replicate t MAX_THREADS

  pub none_named : (l : ℕ) → empty_at x.works l ≡ 1
  none_named l = ap (λ ws. one_if_empty (list_at ws l)) h.unused.works ∙ ap one_if_empty (empty_lists MAX_THREADS l)

  pub rest_once : (t : ℕ) → threads_at_rest x t ≤ 1
  rest_once t = omega (arith, none_listed t, at_most x u.handed t (h.somewhere t))

  -- THE READY THREADS in a list
  abbrev tests : ℕ → Bool
  tests t = is_ready (place_at x t)

  abbrev ready_list : List ℕ
  ready_list = listed tests MAX_THREADS

  abbrev y : Shared
  y = with_lists x (ready_list ∷ [])

  one_test : (t : ℕ) → one_where (tests t) ≤ 1
  one_test t = elim (tests t) as (λ b. one_where b ≤ 1) [ true ↦ omega arith | false ↦ omega arith ]

  -- a thread past all is not ready
  past_ready : (t : ℕ) → MAX_THREADS ≤ t → ready_at x t ≡ 0
  past_ready t past = elim (tests t) as (λ b. b ≡ tests t → one_where b ≡ 0) [
    | true ↦ λ is. absurd (let inside = place_inside x t (by (place_at x t) (sym is)) in omega (arith, inside, past, h.parts.blocks))
    | false ↦ λ is. refl
  ] refl where
    by : (p : KeptPlace) → is_ready p ≡ true → is_unmade p ≡ false
    by Ready is = refl
    by _ is = absurd cc

  count_ready : (t : ℕ) → count_in_all t (ready_list ∷ []) ≡ ready_at x t
  count_ready t = one_list ready_list t ∙ elim (cases_lt t MAX_THREADS) [
    | inl below ↦ count_listed tests MAX_THREADS t below
    | inr past ↦ count_past tests MAX_THREADS t past ∙ sym (past_ready t past)
  ]

  parts_y : ArePartsFor u.base.def u.base.processors e y
  parts_y = let ready = h.parts.state.ready in
      let locks : length x.state.lists.locked ≡ 1 = ready.locks ∙ ap length h.unused.lists in
      record {
        state = record {
          ready = record {
            locks = locks;
            processors = omega arith;
            made = ready.made;
            threads = ready.threads;
            below = λ t some. elim (cases_lt t MAX_THREADS) [
              | inl below ↦ omega (arith, below, h.parts.threads)
              | inr past ↦ absurd (omega (arith, some, count_ready t, past_ready t past))
            ];
            once = λ t. omega (arith, count_ready t, one_test t);
          };
          holders = h.parts.state.holders;
          free = h.parts.state.free;
        };
        lists = inr refl;
        threads = h.parts.threads;
        blocks = h.parts.blocks;
        sync = h.parts.sync;
        works = h.parts.works;
        counts = h.parts.counts;
        at = h.parts.at;
      }

  agrees_y : (t : ℕ) → AgreesInList y t
  agrees_y t =
      let a = h.places t in
      record { ready = count_ready t ∙ a.ready; waiting = a.waiting; ends = a.ends; new = a.new }

  rest_y : (t : ℕ) → threads_at_rest y t ≤ 1
  rest_y t = omega (arith, count_ready t, h.somewhere t, small t) where
    small : (v : ℕ) → not_carried x v ≤ 1
    small v = elim (is_carried (place_at x v)) as (λ b. cond b 0 1 ≤ 1) [ true ↦ omega arith | false ↦ omega arith ]

  -- ONE INSTRUCTION
  module _ (a : ℕ) (c : DrivenContext) (is : cs a ≡ Some c) (t : ThreadNo) (at : c.thread ≡ Some t) where
    pub runs : not_carried x t.0 ≡ 0
    runs =
        let once : not_carried x t.0 + carried_of (Some c) t.0 ≤ 1 =
        subst (λ d. not_carried x t.0 + carried_of d t.0 ≤ 1) is (h.carries.once a t.0) in
        let one : one_of c.thread t.0 ≡ 1 = ap (λ o. one_of o t.0) at ∙ one_same t.0 t.0 refl in
        omega (arith, once, one)

    hand : threads_at_rest x t.0 ≡ 0
    hand = omega (arith, none_listed t.0, (carried_free x u.handed t.0 (h.somewhere t.0) runs).0)

    hand_y : threads_at_rest y t.0 ≡ 0
    hand_y = let free = carried_free x u.handed t.0 (h.somewhere t.0) runs in omega (arith, count_ready t.0, free.0, free.2)

    space : IsSpace u.base.def
    space = subst IsSpace (sym h.made.def) h.made.setting.def

    module _ (pages : ℕ) where
      abbrev o : Outcome
      o = run u.base.def u.base.fetch pages x None t

      abbrev p : Outcome
      p = run u.base.def u.base.fetch pages y None t

      pub step : RunStep u.base.def u.base.processors e x None t o
      step = run-step u.base.def u.base.processors e u.base.fetch pages x None t space h.parts tt hand (λ v some. none_due v) rest_once

      place : PlaceStep y t p
      place = place-step u.base.def u.base.processors e u.base.fetch pages y None t parts_y hand_y rest_y agrees_y runs
          (run-step u.base.def u.base.processors e u.base.fetch pages y None t space parts_y tt hand_y (λ v some. none_due v) rest_y)

      step_y : RunStep u.base.def u.base.processors e y None t p
      step_y = run-step u.base.def u.base.processors e u.base.fetch pages y None t space parts_y tt hand_y (λ v some. none_due v) rest_y

      alike : AreAlike o p
      alike = run_alike x (ready_list ∷ []) None t u.base.def u.base.fetch pages

      -- what is handed over
      pub alone : IsAlone o.shared.works o.work
      alone = record { works = step.works.works; names = λ l. omega (arith, step.works.names l, none_named l) }

      abbrev roused : List ℕ
      roused = work_of o.shared.works o.work

      roused_gained : (v : ℕ) → count_in v roused ≡ step.gained v
      roused_gained v = let nil : count_in v [] ≡ 0 = refl in omega (arith, step.works.threads v, nil)

      roused_below : (v : ℕ) → 1 ≤ count_in v roused → v < length u.handed
      roused_below v some = by o.work some where
        by : (w : Option ThreadNo) → 1 ≤ count_in v (work_of o.shared.works w) → v < length u.handed
        by None some = absurd (let nil : count_in v [] ≡ 0 = refl in omega (arith, some, nil))
        by (Some n) some =
            let below = step.works.works.below v (omega (arith, some, count_at v o.shared.works n.0)) in omega (arith, below, h.handed)

      -- the places afterwards
      same_place : (v : ℕ) → place_at p.shared v ≡ place_at o.shared v
      same_place v = ap (λ bs. (block_at bs v).place) alike.threads

      same_waits : (v : ℕ) → waits_of p.shared.sync v ≡ waits_of o.shared.sync v
      same_waits v = ap (λ (z : Sync). waits_of z v) alike.sync

      same_done : (v : ℕ) → done_at p.shared.sync v ≡ done_at o.shared.sync v
      same_done v = ap (λ (z : Sync). done_at z v) alike.sync

      same_unmade : (v : ℕ) → unmade_at p.shared.state.lists v ≡ unmade_at o.shared.state.lists v
      same_unmade v = ap (λ m. cond (nat_lt v m) 0 1) alike.made

      places : (v : ℕ) → AgreesAt o.shared v
      places v =
          let was = place.places v in
          subst (λ q. AgreesBy (one_where (is_ready q)) (waits_of o.shared.sync v) (done_at o.shared.sync v) (unmade_at o.shared.state.lists v) q)
          (same_place v) (record {
            ready = refl;
            waiting = omega (arith, was.waiting, same_waits v);
            ends = sym (same_done v) ∙ was.ends;
            new = sym (same_unmade v) ∙ was.new;
          })

      still_ready : (v : ℕ) → ready_at o.shared v ≡ ready_at x v
      still_ready v =
          ap (λ q. one_where (is_ready q)) (sym (same_place v)) ∙ sym (place.places v).ready ∙ ap (count_in_all v) step_y.lists ∙ count_ready v

      carried_on : (v : ℕ) → not_carried o.shared v + stays_with o.answer t v ≡ not_carried x v + one_if t.0 v
      carried_on v =
          let same : not_carried p.shared v ≡ not_carried o.shared v = ap (λ q. cond (is_carried q) 0 1) (same_place v) in
          let stays : stays_with p.answer t v ≡ stays_with o.answer t v = ap (λ r. stays_with r t v) alike.answer in
          omega (arith, place.carries v, same, stays)

      none_listed_after : (v : ℕ) → count_in_all v o.shared.state.lists.lists ≡ 0
      none_listed_after v = ap (count_in_all v) step.lists ∙ none_listed v

      not_small_after : (v : ℕ) → not_carried o.shared v ≤ 1
      not_small_after v = elim (is_carried (place_at o.shared v)) as (λ b. cond b 0 1 ≤ 1) [ true ↦ omega arith | false ↦ omega arith ]

      -- handed before, or now
      sums : (v : ℕ) → ready_at o.shared v + (in_set u.handed v + count_in v roused) + waits_of o.shared.sync v + done_at o.shared.sync v
          + unmade_at o.shared.state.lists v ≡ not_carried o.shared v
      sums v = omega (
        arith,
        still_ready v,
        h.somewhere v,
        step.threads v,
        roused_gained v,
        carried_on v,
        none_listed v,
        none_listed_after v,
      )

      handed_after : (v : ℕ) → in_set (with_all u.handed roused) v ≡ in_set u.handed v + count_in v roused
      handed_after v = with_all-counts u.handed roused (λ w. omega (arith, sums w, not_small_after w)) roused_below v

      somewhere : (v : ℕ) → IsSomewhere o.shared (with_all u.handed roused) v
      somewhere v = omega (arith, sums v, handed_after v)

      pub value : (f : ℕ) → e < f → IsValue s f (after_run u o)
      value f later = record {
        made = record { setting = h.made.setting; space = step.space ∙ h.made.space; def = h.made.def; processors = h.made.processors; fetch = h.made.fetch };
        parts = parts_later u.base.def u.base.processors (e + 1) f (record o.shared { works = replicate MAX_THREADS [] })
            (parts_works u.base.def u.base.processors (e + 1) o.shared (replicate MAX_THREADS []) step.parts
            (subst AreWorks h.unused.works h.parts.works)) (omega (arith, later));
        unused = record { lists = step.lists ∙ h.unused.lists; works = refl };
        places = places;
        somewhere = somewhere;
        handed = length-with_all u.handed roused ∙ h.handed;
      }

      -- THE RULE, by the answer
      abbrev d : DrivenContext
      d = record c { hand = with_all c.hand roused }

      hand_kept : length d.hand ≡ MAX_THREADS
      hand_kept = length-with_all c.hand roused ∙ h.hands a c is

      carried_one : (v : ℕ) → one_of c.thread v ≡ one_if t.0 v
      carried_one v = ap (λ n. one_of n v) at

      abbrev Changes : ℕ → DrivenContext → Type 0
      Changes f new = IsChange s f u (after_run u o) (Some c) new 0

      stays_change : (f : ℕ) (new : DrivenContext) → e < f → new.thread ≡ c.thread → new.locks ≡ c.locks → new.hand ≡ d.hand
          → ((v : ℕ) → stays_with o.answer t v ≡ one_if t.0 v) → Changes f new
      stays_change f new later thread locks in_hand stays = record {
        value = value f later;
        carries = λ v.
            let same : one_of new.thread v ≡ one_if t.0 v = ap (λ n. one_of n v) thread ∙ carried_one v in
            omega (arith, carried_on v, stays v, same, carried_one v);
        locks = omega (arith, locks);
        hand = ap length in_hand ∙ hand_kept;
      }

      goes_change : (f : ℕ) (local : Bool) → e < f → o.answer ≡ Goes → Changes f (after_ins (after_run u o) d local)
      goes_change f true later answer = stays_change f d later refl refl refl (λ v. ap (λ r. stays_with r t v) answer)
      goes_change f false later answer =
          stays_change f (goes_on (after_run u o) d) later refl refl refl (λ v. ap (λ r. stays_with r t v) answer)

      pub ran_change : (f : ℕ) (seen : Seen) (local : Bool) (answer : Ran) (says : List Record) → e < f → o.answer ≡ answer
          → let r = ran_by (after_run u o) seen d local answer says in IsChange s f u r.user (Some c) r.ctx 0
      ran_change f seen local Goes says later answer = goes_change f local later answer
      ran_change f seen local Leaves says later answer = record {
        value = value f later;
        carries = λ v.
            let gone : stays_with o.answer t v ≡ 0 = ap (λ r. stays_with r t v) answer in
            omega (arith, carried_on v, gone, carried_one v);
        locks = omega arith;
        hand = hand_kept;
      }
      ran_change f seen local (Blocks length page) says later answer = stays_change f d later refl refl refl (λ v. ap (λ r. stays_with r t v) answer)
