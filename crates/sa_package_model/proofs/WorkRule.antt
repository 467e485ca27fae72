-- A step between routines keeps all standing: a section is continued, a push begins, a pop begins.
use Rattle.std.proofs.Common.{◌≡◌, ℕ, ◌+◌, ◌≤◌, ◌<◌, Bool, true, false, List, [], ◌∷◌, length, drop, Option, Some, None, IfSome, is_some, slice_get, refl, sym, ap, ◌∙◌, subst, arith}
use Rattle.std.proofs.lemmas.Option.{same_Some}
use Rattle.sa_base.specs.declared.number.ThreadNo.{ThreadNo}
use Rattle.sa_base.specs.declared.number.ProcNo.{ProcNo}
use Rattle.sa_base.specs.declared.limits.TheConstants.{PACKAGE_PAGE}
use Rattle.sa_base.specs.declared.context.Seen.{Seen}
use Rattle.sa_abstract.specs.Setting.{Setting}
use Rattle.sa_abstract.specs.Calls.{Contexts}
use Rattle.sa_links.specs.Lists.{list_at, count_in}
use Rattle.sa_links.proofs.Counting.{first_counted}
use Rattle.sa_lists.specs.ReadyView.{ReadyView, list_of, is_locked, processor}
use Rattle.sa_lists.specs.ReadyView as ready
use Rattle.sa_code.specs.declared.code.Op.{Op}
use Rattle.sa_code.specs.declared.code.Op.TheVariants.{TakePush, Push, TakePop, Pop, Free}
use Rattle.sa_code.specs.declared.state.Frame.{Frame}
use Rattle.sa_code.specs.Micro.{micro_at, taken, is_resident, list_in, HasList, CanDo}
use Rattle.sa_code.specs.Changes.{IsPackage}
use Rattle.sa_code.proofs.Steps.{taken-changes_only}
use Rattle.sa_code.proofs.Kept.{micro-package}
use Rattle.sa_copies.specs.Copies.{package_ops}
use Rattle.sa_fast.specs.declared.threads.KeptPlace.TheVariants.{Running, Carried}
use Rattle.sa_fast.specs.Work.{work_of, IsWork}
use Rattle.sa_fast.specs.Rest.{one_if, one_of}
use Rattle.sa_fast.proofs.WorkSteps.{without_first-step}
use Rattle.sa_package_model.specs.declared.context.Context.{Context}
use Rattle.sa_package_model.specs.declared.context.ContextState.{ContextState}
use Rattle.sa_package_model.specs.declared.context.ContextState.TheVariants.{Code}
use Rattle.sa_package_model.specs.declared.package.Package.{Package}
use Rattle.sa_package_model.specs.Context.{carried_by, section_in, is_left, has_bulk, settled_to}
use Rattle.sa_package_model.specs.Conditions.{IsThread, CanBeDue, CanWork}
use Rattle.sa_package_model.specs.Rules.{thread_alone, at_state, owed, settled, placed, put_last, continued, own_list, push_of, pushing_by, pushing, pop_of, popping_by, popping}
use Rattle.sa_package_model.specs.Hands.{carried_of, locks_in, locks_of, threads_in, threads_of}
use Rattle.sa_package_model.specs.Stands.{FitsOperation, IsSection, AreSections, StandsAt, IsContext, IsStanding}
use Rattle.sa_package_model.proofs.Changing.{IsChange, sections_kept, still-change}
use Rattle.sa_package_model.proofs.Views.{IsBetween, settled_between, between_locks, between_threads, between_context, between_rest, section_locks, section_threads, section_context}
use Rattle.sa_package_model.proofs.Holding.{own_made, own_unready, own_due, own_thread, own_work}
use Rattle.sa_package_model.proofs.PlaceFacts.{IsPlaceable, agree_in_hand, put_down, picked_up, carried_small, own_placeable, own_at_rest, beside_placeable, beside_at_rest, running_hand, carried_hand_place}
use Rattle.sa_package_model.proofs.Parts.{length_placed, parts_placed, parts_state, parts_works, made_with, due-step, lock_taken}

-- a section can be in the code
fits_stands : (r : ReadyView) (f : Frame) (op : Option Op) → FitsOperation r f op → StandsAt f op
fits_stands r f (Some Push) h = tt
fits_stands r f (Some Pop) h = tt
fits_stands r f (Some Free) h = tt
fits_stands r f _ h = absurd h

-- a list that has a first
first_of : (fs : List Frame) (f : Frame) → slice_get fs 0 ≡ Some f → fs ≡ f ∷ drop 1 fs
first_of [] f e = absurd cc
first_of (g ∷ fs) f e = ap (λ x. x ∷ fs) (same_Some g f e)

module _ (s : Setting) (e : ℕ) (u : Package) (cs : Contexts Context) (h : IsStanding s e u cs) (a : ℕ) (c : Context) (is : cs a ≡ Some c)
    (t : Option ThreadNo) (no : section_in c.state ≡ None) (carries : carried_by c.state ≡ t) where
  here : IsContext u.shared.state.lists c
  here = h.contexts a c is

  rest : AreSections u.shared.state.lists c.sections
  rest = between_rest c t no carries u.shared.state.lists here

  locks_are : (m : ℕ) → locks_of (Some c) m ≡ locks_in c.sections m
  locks_are = between_locks c t no carries

  threads_are : (x : ℕ) → threads_of u.shared.works (Some c) x ≡ threads_in c.sections x + one_of t x + count_in x (work_of u.shared.works c.work)
  threads_are = between_threads c t no carries u.shared.works

  carried_x : (x : ℕ) → carried_of (Some c) x ≡ one_of t x
  carried_x x = ap (λ o. one_of o x) carries

  -- a thread that is carried can be put into the work list
  pub between_due : CanBeDue u.shared t
  between_due = own_due s e u cs h a c is t (λ x.
      let alone : one_of (thread_alone (section_in c.state) (carried_by c.state)) x ≡ one_of t x =
      ap (λ o. one_of (thread_alone o (carried_by c.state)) x) no ∙ ap (λ o. one_of o x) carries in
      omega arith)

  -- the first section is continued
  pub continued-change : (f : Frame) → slice_get c.sections 0 ≡ Some f → IsChange s e u (continued u c f).user (Some c) (continued u c f).ctx
  continued-change f first =
      let p = put_last u c (carried_by c.state) in
      let due : CanBeDue u.shared (carried_by c.state) = subst (CanBeDue u.shared) (sym carries) between_due in
      let step = due-step u.shared c.work (carried_by c.state) h.parts.works (own_work s e u cs h a c is) due in
      let v = (continued u c f).user in
      let new = (continued u c f).ctx in
      let fs : c.sections ≡ f ∷ drop 1 c.sections = first_of c.sections f first in
      let both : AreSections u.shared.state.lists (f ∷ drop 1 c.sections) = subst (AreSections u.shared.state.lists) fs rest in
      let one : IsSection u.shared.state.lists f = both.0 in
      let has : (y : ℕ) → one_of f.thread y + one_of (carried_by c.state) y ≤ threads_of u.shared.works (Some c) y = λ y.
      (let split : threads_in c.sections y ≡ one_of f.thread y + one_of f.pushed y + threads_in (drop 1 c.sections) y = ap (λ xs. threads_in xs y) fs in
      omega (arith, threads_are y, carried_x y)) in
      let beside = beside_placeable s e u cs h a c is f.thread has in
      let second_rest = beside_at_rest s e u cs h a c is f.thread has in
      let second : IsPlaceable p.user.shared f.thread 1 = record {
        inside = λ n at. let below = beside.inside n at in let all = length_placed u.shared.threads (carried_by c.state) Carried in omega arith;
        carried = λ n at.
            let down = put_down u.shared (carried_by c.state) Carried refl (own_placeable s e u cs h a c is (carried_by c.state) refl) n.0 in
            let was = beside.carried n at in let small = carried_small p.user.shared n.0 in omega arith;
      } in
      record {
        made = made_with s u v.shared h.made refl;
        code = h.code;
        parts = parts_placed u.def u.processors e p.user.shared f.thread Running
            (parts_works u.def u.processors e (placed u.shared (carried_by c.state) Carried) p.user.shared.works
            (parts_placed u.def u.processors e u.shared (carried_by c.state) Carried h.parts) step.works);
        locks = λ y.
            let split : locks_in c.sections y ≡ one_if (list_in f).0 y + locks_in (drop 1 c.sections) y = ap (λ xs. locks_in xs y) fs in
            omega (arith, section_locks new f f.pc refl one.copy y, locks_are y);
        threads = λ y.
            let split : threads_in c.sections y ≡ one_of f.thread y + one_of f.pushed y + threads_in (drop 1 c.sections) y = ap (λ xs. threads_in xs y) fs in
            let same : one_of (carried_by c.state) y ≡ one_of t y = ap (λ o. one_of o y) carries in
            omega (arith, section_threads new f f.pc refl one.copy p.user.shared.works y, threads_are y, step.threads y);
        names = λ y. step.names y;
        works = λ y p q. step.others y p q;
        lists = λ y p q. refl;
        places = agree_in_hand p.user.shared f.thread 1 Running running_hand second second_rest
            (agree_in_hand u.shared (carried_by c.state) 0 Carried carried_hand_place (own_placeable s e u cs h a c is (carried_by c.state) refl)
            (own_at_rest s e u cs h a c is (carried_by c.state) refl) h.places);
        carries = λ y.
            let down = put_down u.shared (carried_by c.state) Carried refl (own_placeable s e u cs h a c is (carried_by c.state) refl) y in
            let up = picked_up p.user.shared f.thread Running refl second y in omega arith;
        context =
            section_context new f f.pc refl one.copy u.shared.state.lists
            (fits_stands u.shared.state.lists f (slice_get package_ops f.pc) one.fits) one.fits both.1;
      }

  -- the first thread of the work list
  module _ (first : ThreadNo) (work : c.work ≡ Some first) where
    has_work : IsWork u.shared.works (Some first)
    has_work = subst (IsWork u.shared.works) work (own_work s e u cs h a c is)

    first_mine : 1 ≤ threads_of u.shared.works (Some c) first.0
    first_mine =
        let head = first_counted (list_at u.shared.works first.0) first.0 (λ y at. h.parts.works.named.first first.0 y at) has_work.1 in
        let old : count_in first.0 (work_of u.shared.works c.work) ≡ count_in first.0 (list_at u.shared.works first.0) =
        ap (λ w. count_in first.0 (work_of u.shared.works w)) work in
        omega (arith, threads_are first.0)

    unready_first : ready.IsUnlisted u.shared.state.lists first.0
    unready_first = own_unready s e u cs h a c is first.0 first_mine

  -- the take of a push, by processor `by` on list p
  module _ (by p : ProcNo) (inside : p.0 < length u.shared.state.lists.lists) (first : ThreadNo) (work : c.work ≡ Some first) where
    within : p.0 < length u.shared.state.lists.locked
    within = let same = h.parts.state.ready.locks in omega arith

    pushing_taken : (held : Bool) → is_locked u.shared.state.lists p.0 ≡ held
        → IsPackage (taken u.shared.state (push_of by p first (carried_by c.state)) p held).state
        → let m = taken u.shared.state (push_of by p first (carried_by c.state)) p held in
        IsChange s e u (pushing_by u c first m m.done).user (Some c) (pushing_by u c first m m.done).ctx
    pushing_taken true held sound = still-change s e u cs h a c is
    pushing_taken false free sound =
        let f = push_of by p first (carried_by c.state) in
        let m = taken u.shared.state f p false in
        let g : Frame = m.frame in
        let new = (pushing_by u c first m m.done).ctx in
        let v = (pushing_by u c first m m.done).user in
        let step = without_first-step u.shared.works first h.parts.works (has_work first work) in
        record {
          made = made_with s u v.shared h.made refl;
          code = h.code;
          parts = parts_works u.def u.processors e (record u.shared { state = m.state }) v.shared.works
              (parts_state u.def u.processors e p.0 u.shared m.state h.parts sound (taken-changes_only u.shared.state f p false)) step.works;
          locks = λ y. omega (arith, section_locks new g 8 refl refl y, locks_are y, lock_taken u.shared.state.lists p.0 within free y);
          threads = λ y.
              let same : one_of (carried_by c.state) y ≡ one_of t y = ap (λ o. one_of o y) carries in
              let old : count_in y (work_of u.shared.works c.work) ≡ count_in y (work_of u.shared.works (Some first)) =
              ap (λ w. count_in y (work_of u.shared.works w)) work in
              omega (arith, section_threads new g 8 refl refl v.shared.works y, threads_are y, step.threads y);
          names = λ y. let old : one_of c.work y ≡ one_of (Some first) y = ap (λ w. one_of w y) work in omega (arith, step.names y);
          works = λ y none some. step.others y (ap (λ w. one_of w y) (sym work) ∙ none) some;
          lists = λ y none held. refl;
          places = h.places;
          carries = λ y. refl;
          context =
              section_context new g 8 refl refl m.state.lists tt (refl, refl)
              (sections_kept u.shared.state.lists m.state.lists c.sections (λ y some. refl) rest);
        }

    push_can : CanDo u.shared.state (push_of by p first (carried_by c.state)) (Some TakePush)
    push_can = (
      record { there = refl; inside = inside },
      record {
        thread = first;
        pushes = refl;
        below = let made = own_made s e u cs h a c is first.0 (first_mine first work) in let most = h.parts.state.ready.made in omega arith;
        unlisted = unready_first first work;
      },
    )

  pub pushing-change : (seen : Seen) (first : ThreadNo) → (own_list u seen.proc).0 < length u.shared.state.lists.lists → c.work ≡ Some first
      → IsChange s e u (pushing u seen c first).user (Some c) (pushing u seen c first).ctx
  pushing-change seen first inside work =
      let f = push_of seen.proc (own_list u seen.proc) first (carried_by c.state) in
      let resident = is_resident seen.pages PACKAGE_PAGE in
      let op : slice_get u.shared.state.code 0 ≡ Some TakePush = ap (λ ops. slice_get ops 0) h.code in
      let sound = micro-package u.shared.state f seen.pages h.parts.state
      (subst (CanDo u.shared.state f) (sym op) (push_can seen.proc (own_list u seen.proc) inside first work)) in
      subst (λ o. let m = micro_at u.shared.state f resident (own_list u seen.proc) o in
      IsPackage m.state → IsChange s e u (pushing_by u c first m m.done).user (Some c) (pushing_by u c first m m.done).ctx)
      (sym op) (pushing_taken seen.proc (own_list u seen.proc) inside first work (is_locked u.shared.state.lists (own_list u seen.proc).0) refl) sound

  -- another state in no section, which carries the same
  pub between-change : (state : ContextState) → IsBetween state t → IsChange s e u u (Some c) (at_state c state)
  between-change state between = record {
    made = h.made;
    code = h.code;
    parts = h.parts;
    locks = λ m. omega (arith, between_locks (at_state c state) t between.section between.carries m, locks_are m);
    threads = λ x. omega (arith, between_threads (at_state c state) t between.section between.carries u.shared.works x, threads_are x);
    names = λ m. refl;
    works = λ m x y. refl;
    lists = λ m x y. refl;
    places = h.places;
    carries = λ x. let new : one_of (carried_by state) x ≡ one_of t x = ap (λ o. one_of o x) between.carries in omega (arith, carried_x x);
    context = between_context (at_state c state) t between.section between.carries u.shared.state.lists between.is rest;
  }

  pub settled-change : (seen : Seen) → IsChange s e u u (Some c) (settled u seen c t)
  settled-change seen =
      between-change (settled_to t (is_left c) (is_some (owed u seen)) (has_bulk seen)) (settled_between t (is_left c) (is_some (owed u seen)) (has_bulk seen))

  -- what it has to do it can do
  first_thread : (fs : List Frame) → ((x : ℕ) → threads_in fs x ≤ threads_of u.shared.works (Some c) x) → IfSome (slice_get fs 0) (λ f. IsThread f.thread)
  first_thread [] has = tt
  first_thread (f ∷ fs) has = own_thread s e u cs h a c is f.thread (λ x. let all = has x in omega arith)

  pub work_can : CanWork u c t
  work_can = record {
    section = first_thread c.sections (λ x. let all = threads_are x in omega arith);
    carries = between_due;
    thread = unready c.work refl;
  } where
    unready : (w : Option ThreadNo) → c.work ≡ w → IfSome w (λ n. ready.IsUnlisted u.shared.state.lists n.0)
    unready None work = tt
    unready (Some first) work = unready_first first work

  -- the take of a pop
  module _ (p : ProcNo) (l : ℕ) (inside : l < length u.shared.state.lists.lists) (some : 0 < length (list_of u.shared.state.lists l)) (nothing : t ≡ None) where
    in_locks : l < length u.shared.state.lists.locked
    in_locks = let same = h.parts.state.ready.locks in omega arith

    popping_taken : (held : Bool) → is_locked u.shared.state.lists l ≡ held → IsPackage (taken u.shared.state (pop_of p l) (processor l) held).state
        → let m = taken u.shared.state (pop_of p l) (processor l) held in IsChange s e u (popping_by u c m m.done).user (Some c) (popping_by u c m m.done).ctx
    popping_taken true held sound = still-change s e u cs h a c is
    popping_taken false free sound =
        let f = pop_of p l in
        let m = taken u.shared.state f (processor l) false in
        let g : Frame = m.frame in
        let new = at_state c (Code g) in
        record {
          made = made_with s u (record u.shared { state = m.state }) h.made refl;
          code = h.code;
          parts = parts_state u.def u.processors e l u.shared m.state h.parts sound (taken-changes_only u.shared.state f (processor l) false);
          locks = λ y. omega (arith, section_locks new g 11 refl refl y, locks_are y, lock_taken u.shared.state.lists l in_locks free y);
          threads = λ y. let none : one_of t y ≡ 0 = ap (λ o. one_of o y) nothing in
              omega (arith, section_threads new g 11 refl refl u.shared.works y, threads_are y);
          names = λ y. refl;
          works = λ y q r. refl;
          lists = λ y q r. refl;
          places = h.places;
          carries = λ y. let none : one_of t y ≡ 0 = ap (λ o. one_of o y) nothing in omega (arith, carried_x y);
          context =
              section_context new g 11 refl refl m.state.lists tt (refl, refl, refl, some)
              (sections_kept u.shared.state.lists m.state.lists c.sections (λ y some. refl) rest);
        }

  pub popping-change : (seen : Seen) (l : ℕ) → l < length u.shared.state.lists.lists → 0 < length (list_of u.shared.state.lists l) → t ≡ None
      → IsChange s e u (popping u seen c l).user (Some c) (popping u seen c l).ctx
  popping-change seen l inside some nothing =
      let f = pop_of seen.proc l in
      let resident = is_resident seen.pages PACKAGE_PAGE in
      let op : slice_get u.shared.state.code 4 ≡ Some TakePop = ap (λ ops. slice_get ops 4) h.code in
      let has : HasList u.shared.state f = record { there = refl; inside = inside } in
      let sound = micro-package u.shared.state f seen.pages h.parts.state (subst (CanDo u.shared.state f) (sym op) has) in
      subst (λ o. let m = micro_at u.shared.state f resident (processor l) o in
      IsPackage m.state → IsChange s e u (popping_by u c m m.done).user (Some c) (popping_by u c m m.done).ctx)
      (sym op) (popping_taken seen.proc l inside some nothing (is_locked u.shared.state.lists l) refl) sound
