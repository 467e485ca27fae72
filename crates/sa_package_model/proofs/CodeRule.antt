-- A step in the code of the package keeps all standing.
use Rattle.std.proofs.Common.{◌≡◌, ◌≢◌, ℕ, ◌+◌, ◌≤◌, ◌<◌, true, [], ◌∷◌, length, Option, Some, None, IsSome, is_some, slice_get, refl, sym, ap, ◌∙◌, subst, ◌⊎◌, inl, inr, arith}
use Rattle.sa_base.specs.declared.number.ThreadNo.{ThreadNo}
use Rattle.sa_base.specs.declared.context.Seen.{Seen}
use Rattle.sa_base.specs.declared.record.Record.TheVariants.{Back}
use Rattle.sa_abstract.specs.Setting.{Setting}
use Rattle.sa_abstract.specs.Calls.{Contexts}
use Rattle.sa_links.specs.Lists.{count_in, count_in_all}
use Rattle.sa_links.proofs.Counting.{count_at}
use Rattle.std.proofs.lemmas.Option.{same_Some}
use Rattle.sa_lists.specs.ReadyView.{list_of, thread, inserted}
use Rattle.sa_lists.proofs.Changes.{list_of-with_list_other, count-with_list, count-inserted}
use Rattle.sa_code.specs.declared.code.Op.{Op}
use Rattle.sa_code.specs.declared.code.Op.TheVariants.{TakePush, Push, TakePop, Pop, Free, Leave, Yield}
use Rattle.sa_code.specs.declared.state.Frame.{Frame}
use Rattle.sa_code.specs.declared.state.MicroDone.TheVariants as micros
use Rattle.sa_code.specs.Micro.{Micro, micro, stays, pushed, popped, freed, takes_first, chosen, without_chosen, list_in, CanChange, CanPush, CanDo}
use Rattle.sa_code.specs.Changes.{IsPackage}
use Rattle.sa_code.proofs.Steps.{pushed-changes_only, popped-changes_only, freed-changes_only}
use Rattle.sa_code.proofs.Kept.{micro-package}
use Rattle.sa_code.proofs.Cases.{micro-outcome}
use Rattle.sa_copies.specs.Copies.{package_ops, copy_at}
use Rattle.sa_copies.specs.Runs.{is_section_op}
use Rattle.sa_copies.proofs.Places.{next-push, next-pop, next-free}
use Rattle.sa_fast.specs.declared.threads.KeptPlace.TheVariants.{Ready, Running, Blocked, Carried}
use Rattle.sa_fast.specs.Work.{work_of}
use Rattle.sa_fast.specs.Rest.{one_if, one_of, threads_at_rest, AgreesAt, not_carried}
use Rattle.sa_fast.proofs.WorkSteps.{count_one, one_same, one_other}
use Rattle.sa_package_model.specs.declared.context.Context.{Context}
use Rattle.sa_package_model.specs.declared.context.ContextState.{ContextState}
use Rattle.sa_package_model.specs.declared.context.ContextState.TheVariants.{Code}
use Rattle.sa_package_model.specs.declared.package.Package.{Package}
use Rattle.sa_package_model.specs.Context.{carried_by, section_in, is_left, has_bulk, settled_to}
use Rattle.sa_package_model.specs.Conditions.{IsThread, CanBeDue, CanCode}
use Rattle.sa_package_model.specs.Rules.{thread_alone, at_state, owed, settled, placed, with_shared, with_package, put_last, coded_by, coded, context_after}
use Rattle.sa_package_model.specs.Hands.{carried_of, sections_of, locks_in, locks_of, threads_in, threads_of}
use Rattle.sa_package_model.specs.Stands.{FitsOperation, AreSections, StandsAt, IsState, IsContext, IsStanding}
use Rattle.sa_package_model.proofs.Changing.{IsChange, sections_kept, still-change}
use Rattle.sa_package_model.proofs.Views.{IsBetween, settled_between, yields_between, between_locks, between_threads, between_context, between_rest, section_sections, section_locks, section_threads, section_context, section_fits, section_rest, has_copy}
use Rattle.sa_package_model.proofs.Holding.{lock_once, own_locked, own_inside, own_made, own_unready, own_due, own_thread, own_work, own_rest, rest_once}
use Rattle.sa_package_model.proofs.PlaceFacts.{IsPlaceable, agree_one, agree_in_hand, put_down, picked_up, put_still, rest_not_carried, own_placeable, own_at_rest, beside_placeable, blocked_hand, carried_hand_place}
use Rattle.sa_package_model.proofs.Parts.{parts_placed, parts_state, parts_works, made_with, due-step, lock_freed, count_chosen}

-- where a context is in the code
place_cases : (f : Frame) (op : Option Op) → StandsAt f op → (is_section_op op ≡ true) ⊎ ((op ≡ Some Yield) × (f.pushed ≡ None))
place_cases f (Some Push) h = inl refl
place_cases f (Some Pop) h = inl refl
place_cases f (Some Free) h = inl refl
place_cases f (Some Yield) h = inr (refl, h)
place_cases f _ h = absurd h

some_pushed : (t : Option ThreadNo) → IsSome t → (n : ThreadNo) × (t ≡ Some n)
some_pushed None h = absurd cc
some_pushed (Some n) h = (n, refl)

module _ (s : Setting) (e : ℕ) (u : Package) (cs : Contexts Context) (h : IsStanding s e u cs) (a : ℕ) (c : Context) (is : cs a ≡ Some c) (f : Frame)
    (at : c.state ≡ Code f) where
  here : IsContext u.shared.state.lists c
  here = h.contexts a c is

  stands : StandsAt f (slice_get package_ops f.pc)
  stands = subst IsState at here.state

  op_is : slice_get u.shared.state.code f.pc ≡ slice_get package_ops f.pc
  op_is = ap (λ ops. slice_get ops f.pc) h.code

  -- the thread that is carried
  carries : carried_by c.state ≡ f.thread
  carries = ap carried_by at

  thread_placeable : IsPlaceable u.shared f.thread 0
  thread_placeable = own_placeable s e u cs h a c is f.thread carries

  thread_rest : (m : ThreadNo) → f.thread ≡ Some m → threads_at_rest u.shared m.0 ≡ 0
  thread_rest = own_at_rest s e u cs h a c is f.thread carries

  carried_x : (x : ℕ) → carried_of (Some c) x ≡ one_of f.thread x
  carried_x x = ap (λ o. one_of o x) carries

  -- IN A SECTION
  module _ (k : ℕ) (copy : copy_at f.pc ≡ Some k) where
    locks_are : (m : ℕ) → locks_of (Some c) m ≡ one_if (list_in f).0 m + locks_in c.sections m
    locks_are = section_locks c f k at copy

    threads_are : (x : ℕ) → threads_of u.shared.works (Some c) x
        ≡ one_of f.thread x + one_of f.pushed x + threads_in c.sections x + 0 + count_in x (work_of u.shared.works c.work)
    threads_are = section_threads c f k at copy u.shared.works

    fits : FitsOperation u.shared.state.lists f (slice_get package_ops f.pc)
    fits = section_fits c f k at copy u.shared.state.lists here

    rest : AreSections u.shared.state.lists c.sections
    rest = section_rest c f k at copy u.shared.state.lists here

    has_lock : 1 ≤ locks_of (Some c) (list_in f).0
    has_lock = let all = locks_are (list_in f).0 in let one = one_same (list_in f).0 (list_in f).0 refl in omega arith

    -- its other sections are of other lists
    apart_rest : (m : ℕ) → 1 ≤ locks_in c.sections m → m ≢ (list_in f).0
    apart_rest m some same =
        let all = locks_are m in let one = one_same (list_in f).0 m (sym same) in let once = lock_once s e u cs h a c is m in absurd (omega arith)

    apart_others : (m : ℕ) → locks_of (Some c) m ≡ 0 → m ≢ (list_in f).0
    apart_others m none same = let all = locks_are m in let one = one_same (list_in f).0 m (sym same) in absurd (omega arith)

    inside : (list_in f).0 < length u.shared.state.lists.lists
    inside = own_inside s e u cs h a c is (list_in f).0 has_lock

    can_change : IsSome f.list → CanChange u.shared.state f
    can_change there = record { list = record { there = there; inside = inside }; locked = own_locked s e u cs h a c is (list_in f).0 has_lock }

    own_pushed : (t : ThreadNo) → f.pushed ≡ Some t → 1 ≤ threads_of u.shared.works (Some c) t.0
    own_pushed t pushes =
        let all = threads_are t.0 in
        let one : one_of f.pushed t.0 ≡ 1 = ap (λ p. one_of p t.0) pushes ∙ one_same t.0 t.0 refl in omega arith

    can_push : IsSome f.pushed → CanPush u.shared.state f
    can_push there =
        let t = some_pushed f.pushed there in
        let mine = own_pushed t.0 t.1 in
        record {
          thread = t.0;
          pushes = t.1;
          below = let made = own_made s e u cs h a c is t.0.0 mine in let most = h.parts.state.ready.made in omega arith;
          unlisted = own_unready s e u cs h a c is t.0.0 mine;
        }

    can_in_section : (op : Option Op) → FitsOperation u.shared.state.lists f op → CanDo u.shared.state f op
    can_in_section (Some Push) fits = (can_change fits.0, can_push fits.1)
    can_in_section (Some Pop) fits = (can_change fits.0, record { some = fits.3; carries = fits.2 })
    can_in_section (Some Free) fits = can_change fits.0
    can_in_section _ fits = absurd fits

    section_can : CanCode u f
    section_can = record {
      does = subst (CanDo u.shared.state f) (sym op_is) (can_in_section (slice_get package_ops f.pc) fits);
      pushes = own_thread s e u cs h a c is f.pushed (λ x. omega (arith, threads_are x));
      carries = own_due_here;
    } where
      own_due_here : CanBeDue u.shared f.thread
      own_due_here = own_due s e u cs h a c is f.thread (λ x.
          let all : threads_in (sections_of c) x ≡ one_of f.thread x + one_of f.pushed x + threads_in c.sections x =
          ap (λ fs. threads_in fs x) (section_sections c f k at copy) in omega arith)

  -- AT A COPY'S END
  yield_can : slice_get package_ops f.pc ≡ Some Yield → f.pushed ≡ None → CanCode u f
  yield_can op none =
      let between = yields_between f op none in
      record {
        does = subst (CanDo u.shared.state f) (sym (op_is ∙ op)) tt;
        pushes = subst IsThread (sym none) tt;
        carries = own_due s e u cs h a c is f.thread (λ x.
            let no : section_in c.state ≡ None = ap section_in at ∙ between.section in
            let alone : thread_alone (section_in c.state) (carried_by c.state) ≡ f.thread =
            ap (λ o. thread_alone o (carried_by c.state)) no ∙ ap carried_by at in
            let one : one_of (thread_alone (section_in c.state) (carried_by c.state)) x ≡ one_of f.thread x = ap (λ t. one_of t x) alone in omega arith);
      }

  pub code_can : CanCode u f
  code_can = elim (place_cases f (slice_get package_ops f.pc) stands) [
    | inl section ↦ let copy = has_copy f.pc section in section_can copy.0 copy.1
    | inr yields ↦ yield_can yields.0 yields.1
  ]

  -- THE STEP
  module _ (seen : Seen) where
    -- what comes of an operation, where it leaves a package state
    abbrev Keeps : Option Op → Micro → Type 0
    Keeps op m = IsPackage m.state → IsChange s e u (coded_by u seen c f op m m.done).user (Some c) (coded_by u seen c f op m m.done).ctx

    -- the thread that is carried blocks
    faults : (op : Option Op) → Keeps op (stays u.shared.state f micros.Faulted [])
    faults op sound = record {
      made = made_with s u (placed u.shared f.thread Blocked) h.made refl;
      code = h.code;
      parts = parts_placed u.def u.processors e u.shared f.thread Blocked h.parts;
      locks = λ m. refl;
      threads = λ x. refl;
      names = λ m. refl;
      works = λ m x y. refl;
      lists = λ m x y. refl;
      places = agree_in_hand u.shared f.thread 0 Blocked blocked_hand thread_placeable thread_rest h.places;
      carries = λ x. let same = put_still u.shared f.thread Blocked thread_placeable x in omega arith;
      context = here;
    }

    module _ (k : ℕ) (copy : copy_at f.pc ≡ Some k) where
      -- the effect of a push
      pushes_so : (t : ThreadNo) → slice_get package_ops f.pc ≡ Some Push → f.pushed ≡ Some t
          → Keeps (Some Push) (pushed u.shared.state f true (list_in f) (Some t))
      pushes_so t op pushes sound =
          let m = pushed u.shared.state f true (list_in f) (Some t) in
          let g : Frame = m.frame in
          let next : slice_get package_ops g.pc ≡ Some Free = next-push f.pc op in
          let now : slice_get m.state.code g.pc ≡ Some Free = ap (λ ops. slice_get ops g.pc) h.code ∙ next in
          let copied = has_copy g.pc (ap is_section_op next) in
          let new = at_state c (Code g) in
          let x = placed (record u.shared { state = m.state }) f.pushed Ready in
          let pushed_placeable = beside_placeable s e u cs h a c is f.pushed (λ y. omega (arith, threads_are k copy y, carried_x y)) in
          let own : FitsOperation u.shared.state.lists f (Some Push) = subst (FitsOperation u.shared.state.lists f) op (fits k copy) in
          let done : IsChange s e u (with_shared u x) (Some c) new = record {
            made = made_with s u x h.made refl;
            code = h.code;
            parts = parts_placed u.def u.processors e (record u.shared { state = m.state }) f.pushed Ready
                (parts_state u.def u.processors e (list_in f).0 u.shared m.state h.parts sound
                (pushed-changes_only u.shared.state f true (list_in f) (Some t)));
            locks = λ y. omega (arith, section_locks new g copied.0 refl copied.1 y, locks_are k copy y);
            threads = λ y.
                let all = count-with_list u.shared.state.lists (list_in f).0 y
                (inserted u.shared.state.lists.ranks t.0 (list_of u.shared.state.lists (list_in f).0)) (inside k copy) in
                let more = count-inserted u.shared.state.lists.ranks t.0 y (list_of u.shared.state.lists (list_in f).0) in
                let one = count_one y t.0 (list_of u.shared.state.lists (list_in f).0) in
                let gone : one_of f.pushed y ≡ one_if t.0 y = ap (λ p. one_of p y) pushes in
                omega (arith, section_threads new g copied.0 refl copied.1 u.shared.works y, threads_are k copy y);
            names = λ y. refl;
            works = λ y p q. refl;
            lists =
                λ y none held. list_of-with_list_other u.shared.state.lists (list_in f).0 y
                (inserted u.shared.state.lists.ranks t.0 (list_of u.shared.state.lists (list_in f).0)) (apart_others k copy y none);
            places = subst (λ p. (y : ℕ) → AgreesAt (placed (record u.shared { state = m.state }) p Ready) y) (sym pushes)
                (agree_one (record u.shared { state = m.state }) t Ready (pushed_placeable.inside t pushes)
                (let all = count-with_list u.shared.state.lists (list_in f).0 t.0
                (inserted u.shared.state.lists.ranks t.0 (list_of u.shared.state.lists (list_in f).0)) (inside k copy) in
                let more = count-inserted u.shared.state.lists.ranks t.0 t.0 (list_of u.shared.state.lists (list_in f).0) in
                let one = count_one t.0 t.0 (list_of u.shared.state.lists (list_in f).0) in let same = one_same t.0 t.0 refl in
                let none = own_rest s e u cs h a c is t.0 (own_pushed k copy t pushes) in
                record { ready = omega arith; waiting = omega arith; ends = omega arith; new = omega arith })
                (λ y ne.
                let all = count-with_list u.shared.state.lists (list_in f).0 y
                (inserted u.shared.state.lists.ranks t.0 (list_of u.shared.state.lists (list_in f).0)) (inside k copy) in
                let more = count-inserted u.shared.state.lists.ranks t.0 y (list_of u.shared.state.lists (list_in f).0) in
                let one = count_one y t.0 (list_of u.shared.state.lists (list_in f).0) in let other = one_other t.0 y (λ q. ne (sym q)) in
                let was = h.places y in
                let ready = was.ready in
                record { ready = omega arith; waiting = was.waiting; ends = was.ends; new = was.new }));
            carries =
                λ y. let same = put_still (record u.shared { state = m.state }) f.pushed Ready
                (record { inside = pushed_placeable.inside; carried = pushed_placeable.carried }) y in
                omega (arith, carried_x y);
            context = section_context new g copied.0 refl copied.1 m.state.lists
                (subst (StandsAt g) (sym next) tt) (subst (FitsOperation m.state.lists g) (sym next) (own.0, refl))
                (sections_kept u.shared.state.lists m.state.lists c.sections
                (λ y some. list_of-with_list_other u.shared.state.lists (list_in f).0 y
                (inserted u.shared.state.lists.ranks t.0 (list_of u.shared.state.lists (list_in f).0)) (apart_rest k copy y some)) (rest k copy));
          } in
          subst (λ o. IsChange s e u (with_shared u x) (Some c) (context_after (with_shared u x) seen c g o)) (sym now) done

      -- the effect of a pop
      pops_so : (t : ℕ) → slice_get package_ops f.pc ≡ Some Pop → chosen u.shared.state.lists (takes_first u.shared.state.lists f.own) (list_in f).0 ≡ Some t
          → Keeps (Some Pop) (popped u.shared.state f true (list_in f) (Some t))
      pops_so t op takes sound =
          let m = popped u.shared.state f true (list_in f) (Some t) in
          let g : Frame = m.frame in
          let next : slice_get package_ops g.pc ≡ Some Free = next-pop f.pc op in
          let now : slice_get m.state.code g.pc ≡ Some Free = ap (λ ops. slice_get ops g.pc) h.code ∙ next in
          let copied = has_copy g.pc (ap is_section_op next) in
          let new = at_state c (Code g) in
          let x = placed (record u.shared { state = m.state }) g.thread Running in
          let left = without_chosen u.shared.state.lists (takes_first u.shared.state.lists f.own) (list_in f).0 in
          let own : FitsOperation u.shared.state.lists f (Some Pop) = subst (FitsOperation u.shared.state.lists f) op (fits k copy) in
          let listed : 1 ≤ count_in_all t u.shared.state.lists.lists =
          (let one = count_chosen u.shared.state.lists (takes_first u.shared.state.lists f.own) (list_in f).0 t t takes in let same = one_same t t refl in
          let all = count_at t u.shared.state.lists.lists (list_in f).0 in omega arith) in
          let popped_rest : 1 ≤ threads_at_rest u.shared t = omega arith in
          let popped_below : t < length u.shared.threads =
          (let below = h.parts.state.ready.below t listed in let all = h.parts.blocks in let most = h.parts.threads in omega arith) in
          let done : IsChange s e u (with_shared u x) (Some c) new = record {
            made = made_with s u x h.made refl;
            code = h.code;
            parts = parts_placed u.def u.processors e (record u.shared { state = m.state }) g.thread Running
                (parts_state u.def u.processors e (list_in f).0 u.shared m.state h.parts sound
                (popped-changes_only u.shared.state f true (list_in f) (Some t)));
            locks = λ y. omega (arith, section_locks new g copied.0 refl copied.1 y, locks_are k copy y);
            threads = λ y.
                let all = count-with_list u.shared.state.lists (list_in f).0 y left (inside k copy) in
                let one = count_chosen u.shared.state.lists (takes_first u.shared.state.lists f.own) (list_in f).0 t y takes in
                let carried : one_of f.thread y ≡ 0 = ap (λ p. one_of p y) own.2 in
                omega (arith, section_threads new g copied.0 refl copied.1 u.shared.works y, threads_are k copy y);
            names = λ y. refl;
            works = λ y p q. refl;
            lists = λ y none held. list_of-with_list_other u.shared.state.lists (list_in f).0 y left (apart_others k copy y none);
            places = agree_one (record u.shared { state = m.state }) (thread t) Running popped_below
                (let all = count-with_list u.shared.state.lists (list_in f).0 t left (inside k copy) in
                let one = count_chosen u.shared.state.lists (takes_first u.shared.state.lists f.own) (list_in f).0 t t takes in let same = one_same t t refl in
                let once = rest_once s e u cs h t in let some = popped_rest in
                record { ready = omega arith; waiting = omega arith; ends = omega arith; new = omega arith })
                (λ y ne.
                let all = count-with_list u.shared.state.lists (list_in f).0 y left (inside k copy) in
                let one = count_chosen u.shared.state.lists (takes_first u.shared.state.lists f.own) (list_in f).0 t y takes in
                let other = one_other t y (λ q. ne (sym q)) in
                let was = h.places y in
                let ready = was.ready in
                record { ready = omega arith; waiting = was.waiting; ends = was.ends; new = was.new });
            carries = λ y.
                let up = picked_up (record u.shared { state = m.state }) (Some (thread t)) Running refl (record {
                  inside = λ n at. subst (λ (z : ThreadNo). z.0 < length u.shared.threads) (same_Some (thread t) n at) popped_below;
                  carried =
                      λ n at. subst (λ (z : ThreadNo). not_carried u.shared z.0 ≡ 1) (same_Some (thread t) n at) (rest_not_carried s e u cs h t popped_rest);
                }) y in
                let none : one_of f.thread y ≡ 0 = ap (λ p. one_of p y) own.2 in
                omega (arith, carried_x y);
            context = section_context new g copied.0 refl copied.1 m.state.lists
                (subst (StandsAt g) (sym next) tt) (subst (FitsOperation m.state.lists g) (sym next) (own.0, own.1))
                (sections_kept u.shared.state.lists m.state.lists c.sections
                (λ y some. list_of-with_list_other u.shared.state.lists (list_in f).0 y left (apart_rest k copy y some)) (rest k copy));
          } in
          subst (λ o. IsChange s e u (with_shared u x) (Some c) (context_after (with_shared u x) seen c g o)) (sym now) done

      -- the free
      frees_so : slice_get package_ops f.pc ≡ Some Free → Keeps (Some Free) (freed u.shared.state f (list_in f))
      frees_so op sound =
          let m = freed u.shared.state f (list_in f) in
          let g : Frame = m.frame in
          let v = with_package u m.state in
          let own : FitsOperation u.shared.state.lists f (Some Free) = subst (FitsOperation u.shared.state.lists f) op (fits k copy) in
          let held = own_locked s e u cs h a c is (list_in f).0 (has_lock k copy) in
          let within : (list_in f).0 < length u.shared.state.lists.locked = let same = h.parts.state.ready.locks in let y = inside k copy in omega arith in
          let done : (state : ContextState) → IsBetween state f.thread → IsChange s e u v (Some c) (at_state c state) = λ state between. record {
            made = made_with s u (record u.shared { state = m.state }) h.made refl;
            code = h.code;
            parts = parts_state u.def u.processors e (list_in f).0 u.shared m.state h.parts sound (freed-changes_only u.shared.state f (list_in f));
            locks =
                λ y. omega (
                  arith,
                  between_locks (at_state c state) f.thread between.section between.carries y,
                  locks_are k copy y,
                  lock_freed u.shared.state.lists (list_in f).0 within held y,
                );
            threads = λ y.
                let none : one_of f.pushed y ≡ 0 = ap (λ p. one_of p y) own.1 in
                omega (arith, between_threads (at_state c state) f.thread between.section between.carries u.shared.works y, threads_are k copy y);
            names = λ y. refl;
            works = λ y p q. refl;
            lists = λ y none held. refl;
            places = h.places;
            carries = λ y. let new : one_of (carried_by state) y ≡ one_of f.thread y = ap (λ o. one_of o y) between.carries in omega (arith, carried_x y);
            context = between_context (at_state c state) f.thread between.section between.carries m.state.lists between.is
                (sections_kept u.shared.state.lists m.state.lists c.sections (λ y some. refl) (rest k copy));
          } in
          let code_at : slice_get m.state.code g.pc ≡ slice_get package_ops g.pc = ap (λ ops. slice_get ops g.pc) h.code in
          elim (next-free f.pc op) [
            | inl leaves ↦
                subst (λ o. IsChange s e u v (Some c) (context_after v seen c g o)) (sym (code_at ∙ leaves))
                (done (settled_to f.thread (is_left c) (is_some (owed v seen)) (has_bulk seen))
                (settled_between f.thread (is_left c) (is_some (owed v seen)) (has_bulk seen)))
            | inr yields ↦
                subst (λ o. IsChange s e u v (Some c) (context_after v seen c g o)) (sym (code_at ∙ yields))
                (done (Code g) (let b = yields_between g yields own.1 in record { section = b.section; carries = b.carries; is = b.is }))
          ]

    -- a copy gives control back
    yields_so : slice_get package_ops f.pc ≡ Some Yield → f.pushed ≡ None
        → Keeps (Some Yield) (stays u.shared.state f micros.Yielded (Back u.shared.state.space f.thread ∷ []))
    yields_so op none sound =
        let p = put_last u c f.thread in
        let step = due-step u.shared c.work f.thread h.parts.works (own_work s e u cs h a c is) (yield_can op none).carries in
        let between = yields_between f op none in
        let no : section_in c.state ≡ None = ap section_in at ∙ between.section in
        let carries : carried_by c.state ≡ f.thread = ap carried_by at in
        let new = settled p.user seen p.ctx None in
        let state = settled_between None (is_left p.ctx) (is_some (owed p.user seen)) (has_bulk seen) in
        record {
          made = made_with s u p.user.shared h.made refl;
          code = h.code;
          parts =
              parts_works u.def u.processors e (placed u.shared f.thread Carried) p.user.shared.works
              (parts_placed u.def u.processors e u.shared f.thread Carried h.parts) step.works;
          locks = λ y. omega (arith, between_locks new None state.section state.carries y, between_locks c f.thread no carries y);
          threads =
              λ y. omega (
                arith,
                between_threads new None state.section state.carries p.user.shared.works y,
                between_threads c f.thread no carries u.shared.works y,
                step.threads y,
              );
          names = λ y. step.names y;
          works = λ y p q. step.others y p q;
          lists = λ y p q. refl;
          places = agree_in_hand u.shared f.thread 0 Carried carried_hand_place thread_placeable thread_rest h.places;
          carries = λ y.
              let down = put_down u.shared f.thread Carried refl thread_placeable y in
              let none : one_of (carried_by new.state) y ≡ 0 = ap (λ o. one_of o y) state.carries in
              omega (arith, carried_x y);
          context =
              between_context new None state.section state.carries u.shared.state.lists state.is (between_rest c f.thread no carries u.shared.state.lists here);
        }

    not_at : (op : Op) → (StandsAt f (Some op) → ⊥) → slice_get u.shared.state.code f.pc ≡ Some op → ⊥
    not_at op never is_op = never (subst (StandsAt f) (sym op_is ∙ is_op) stands)

    section_of : (op : Op) → is_section_op (Some op) ≡ true → slice_get u.shared.state.code f.pc ≡ Some op → (k : ℕ) × (copy_at f.pc ≡ Some k)
    section_of op section is_op = has_copy f.pc (ap is_section_op (sym op_is ∙ is_op) ∙ section)

    outcome : Keeps (slice_get u.shared.state.code f.pc) (micro u.shared.state f seen.pages)
    outcome = micro-outcome (Keeps (slice_get u.shared.state.code f.pc)) u.shared.state f seen.pages code_can.does (record {
      spun = λ list held sound. still-change s e u cs h a c is;
      took_to_push = λ op list push free. absurd (not_at TakePush (λ x. x) op);
      took_to_pop = λ op list free. absurd (not_at TakePop (λ x. x) op);
      faulted = λ change absent. faults (slice_get u.shared.state.code f.pc);
      did_push = λ t op change pushes push.
          let copy = section_of Push refl op in
          subst (λ o. Keeps o (pushed u.shared.state f true (list_in f) (Some t))) (sym op) (pushes_so copy.0 copy.1 t (sym op_is ∙ op) pushes);
      did_pop = λ t op change pop takes.
          let copy = section_of Pop refl op in
          subst (λ o. Keeps o (popped u.shared.state f true (list_in f) (Some t))) (sym op) (pops_so copy.0 copy.1 t (sym op_is ∙ op) takes);
      did_free = λ op change.
          let copy = section_of Free refl op in
          subst (λ o. Keeps o (freed u.shared.state f (list_in f))) (sym op) (frees_so copy.0 copy.1 (sym op_is ∙ op));
      left = λ op. absurd (not_at Leave (λ x. x) op);
      yielded = λ op.
          let none : f.pushed ≡ None = subst (StandsAt f) (sym op_is ∙ op) stands in
          subst (λ o. Keeps o (stays u.shared.state f micros.Yielded (Back u.shared.state.space f.thread ∷ []))) (sym op) (yields_so (sym op_is ∙ op) none);
    })

    pub coded-change : IsChange s e u (coded u seen c f).user (Some c) (coded u seen c f).ctx
    coded-change = outcome (micro-package u.shared.state f seen.pages h.parts.state code_can.does)
