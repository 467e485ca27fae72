-- The first section to continue is continued in its copy.
use Rattle.std.proofs.Common.{◌≡◌, ℕ, ◌+◌, ◌≤◌, ◌<◌, true, false, ◌||◌, List, ◌∷◌, map, length, Option, Some, None, nat_le, slice_get, refl, sym, ap, ◌∙◌, subst, arith}
use Rattle.std.proofs.lemmas.Option.{same_Some}
use Rattle.sa_base.specs.declared.number.ActNo.{ActNo}
use Rattle.sa_base.specs.declared.number.ProcNo.{ProcNo}
use Rattle.sa_base.specs.declared.number.SpaceNo.{SpaceNo}
use Rattle.sa_base.specs.declared.number.ThreadNo.{ThreadNo}
use Rattle.sa_base.specs.declared.record.Record.TheVariants.{Cont}
use Rattle.sa_spaces.specs.Workload.{WorkloadView}
use Rattle.sa_code.specs.declared.state.Frame.{Frame}
use Rattle.sa_copies.proofs.Places.{at_copies}
use Rattle.sa_copies.specs.Copies.{copy_at}
use Rattle.sa_fast.proofs.WorkSteps.{one_same}
use Rattle.sa_fast.specs.Rest.{one_of, place_at}
use Rattle.sa_fast.specs.Threads.{is_loaded}
use Rattle.sa_fast.specs.declared.shared.Shared.{Shared}
use Rattle.sa_fast.specs.declared.threads.KeptPlace.TheVariants as fast
use Rattle.sa_abstract.specs.Calls.{Contexts}
use Rattle.sa_abstract.specs.Setting.{Setting}
use Rattle.sa_package_model.proofs.Holding.{thread_once}
use Rattle.sa_package_model.specs.Context.{section_in, at_copy}
use Rattle.sa_package_model.specs.Rules.{placed, with_shared}
use Rattle.sa_package_model.specs.Stands.{IsStanding}
use Rattle.sa_package_model.specs.declared.context.Context.{Context}
use Rattle.sa_package_model.specs.declared.context.ContextState.TheVariants.{Code, Work}
use Rattle.sa_package_model.specs.declared.package.Package.{Package}
use Rattle.sa_laws.specs.Life.{Life, with_cont}
use Rattle.sa_laws.specs.Locks.{CanCont, WithFirst, KeepsLocks}
use Rattle.sa_laws.specs.Readings.{Readings, running_of, life_of}
use Rattle.sa_laws.specs.Record.{after_record}
use Rattle.sa_laws.specs.State.{space_at, thread_in, thread_at, is_active, owner_at}
use Rattle.sa_laws.specs.Step.{Needs, NobodyRuns, StandsIn}
use Rattle.sa_laws.specs.declared.place.Place.TheVariants as place
use Rattle.sa_fast_laws.proofs.relation.Hands.{split, count-none}
use Rattle.sa_fast_laws.proofs.relation.Moved.{IsMoved, moved-places, moved-held}
use Rattle.sa_fast_laws.proofs.relation.OneLife.{IsHeld, stopped_beside}
use Rattle.sa_fast_laws.proofs.relation.Places.{life-changed}
use Rattle.sa_fast_laws.proofs.relation.Still.{still-held}
use Rattle.sa_fast_laws.proofs.relation.ThreadsBeside.{beside_made, life-here}
use Rattle.sa_fast_laws.specs.FastFits.{Holds, SitsIn}
use Rattle.sa_fast_laws.specs.Life.{lock_of, locks_from, locks_had, pushed_in, stopped_in, beside, carried, count_if, HasHand, HasLife}
use Rattle.sa_fast_laws.specs.Stage.{stage_of, is_gone, is_running, place_of, kept_of, Runs}
use Rattle.sa_fast_laws.specs.View.{view}

module _ (set : Setting) (e : ℕ) (u : Package) (cs : Contexts Context) (h : IsStanding set e u cs) (s : SpaceNo) (r : Readings) (k : Holds s r u cs)
    (a : ActNo) (f : Frame) (fs : List Frame) (wk : Option ThreadNo) (is : cs a.0 ≡ Some (record { state = Work None; sections = f ∷ fs; work = wk }))
    (w : WorkloadView) (number : ℕ) (p : ProcNo) (life : Life) (runs : running_of r p ≡ Some a) (there : life_of r a ≡ Some life)
    (of : life.space ≡ s)
    (known : s.0 < length r.state.spaces) where
  abbrev c : Context
  c = record { state = Work None; sections = f ∷ fs; work = wk }

  abbrev new : Context
  new = record { state = Code f; sections = fs; work = wk }

  l : HasLife s u.shared (space_at r.state s) (stage_of r s a life) (view c) life
  l = life-here s r u cs k a c life is there

  copy : copy_at f.pc ≡ Some f.pc
  copy = (h.contexts a.0 c is).sections.0.copy

  in_copies : nat_le 8 f.pc ≡ true
  in_copies =
      at_copies (λ i j. i ≡ j → nat_le 8 i ≡ true) (λ e. absurd (omega arith)) (λ e. absurd (omega arith)) (λ e. absurd (omega arith))
      (λ e. absurd (omega arith)) (λ e. refl) (λ e. refl) (λ e. refl) (λ e. refl) f.pc f.pc copy refl

  now : life.proc ≡ p
  now = (k.runs p a life runs there of).1

  stage : stage_of r s a life ≡ Runs
  stage = (k.runs p a life runs there of).2

  section : section_in new.state ≡ Some f
  section = ap (at_copy f) copy

  -- what it had beside, and now carries
  beside_less : (n : ℕ) → beside u.shared.works (view c) n ≡ beside u.shared.works (view new) n + one_of f.thread n
  beside_less n = let own : pushed_in (section_in new.state) n ≡ one_of f.pushed n = ap (λ o. pushed_in o n) section in omega arith

  abbrev made : Shared
  made = placed u.shared f.thread fast.Running

  abbrev v : Package
  v = with_shared u made

  abbrev q : Readings
  q = after_record w number p r (Cont s f.thread)

  hand : HasHand u.shared.works (view new) (is_gone (stage_of r s a life)) life.hand
  hand = record {
    all = λ n some. l.hand.all n (let less = beside_less n in omega arith);
    own = λ gone n some. absurd (let no : is_gone (stage_of r s a life) ≡ false = ap is_gone stage in cc);
    only = λ n some.
        let has = l.hand.only n some in let less = beside_less n in
        let none : count_if (is_gone (stage_of r s a life) || false) 0 ≡ 0 = count-none (is_gone (stage_of r s a life) || false) in
        let one : count_if (is_gone (stage_of r s a life) || nat_le 8 f.pc) (carried (view new) n) ≡ one_of f.thread n =
        ap (λ g. count_if (is_gone g || nat_le 8 f.pc) (carried (view new) n)) stage ∙ ap (λ b. count_if b (carried (view new) n)) in_copies in
        omega arith;
  }

  locks_now : life.locks ≡ locks_had (view new)
  locks_now = l.locks ∙ ap (λ b. lock_of b f ∷ map (lock_of true) fs) (sym in_copies) ∙ sym (ap (λ o. locks_from (nat_le 8 f.pc) o fs) section)

  pub cont-keeps : KeepsLocks w r p life (Cont s f.thread)
  cont-keeps = subst (λ o. WithFirst o (λ x. CanCont life x s f.thread)) (sym (ap (λ ls. slice_get ls 0) l.locks)) (record {
    space = sym l.space;
    cont = l.cont;
    inherited = refl;
    thread = refl;
  })

  -- by whether the section has a thread
  abbrev HasContinued : Option ThreadNo → Type 0
  HasContinued o =
      IsHeld s r (after_record w number p r (Cont s o)) u (with_shared u (placed u.shared o fast.Running)) a c new × StandsIn place.Carried r.state s o

  pub continues : (o : Option ThreadNo) → f.thread ≡ o → HasContinued o
  continues None none = (
    still-held s r (after_record w number p r (Cont s None)) u (with_shared u u.shared) cs k a c new is (record {
      space = refl;
      untold = refl;
      running = refl;
      was = life;
      old = there;
      life = with_cont true life;
      lives = life-changed (with_cont true) r p a life runs there;
      stays = (refl, refl, refl);
      threads = refl;
      sync = refl;
      made = refl;
      works = λ m no some. refl;
      carries = none;
      sections = λ n some. omega arith;
      locks = locks_now;
      cont = sym in_copies;
      hand = hand;
    }),
    tt,
  )
  continues (Some t) at =
      let one : one_of f.thread t.0 ≡ 1 = ap (λ o. one_of o t.0) at ∙ one_same t.0 t.0 refl in
      let has : 1 ≤ beside u.shared.works (view c) t.0 = (let less = beside_less t.0 in omega arith) in
      let all = split u.shared.works c t.0 in
      let once = thread_once set e u cs h a.0 c is t.0 in
      let kept = l.stopped t (omega arith) in
      let carried_there : (thread_at r.state s t).place ≡ place.Carried =
      subst (λ x. SitsIn x (thread_in (space_at r.state s) t).place) kept (k.space.threads t (beside_made set e u cs h s r k a c is t has)).place in
      let i : IsMoved s r (after_record w number p r (Cont s (Some t))) u (with_shared u (placed u.shared (Some t) fast.Running)) a c new t fast.Running
      (place.Running p) = record {
        state = refl;
        untold = refl;
        running = refl;
        was = life;
        old = there;
        life = with_cont true life;
        lives = life-changed (with_cont true) r p a life runs there;
        stays = (refl, refl, refl);
        threads = refl;
        sync = refl;
        made = refl;
        works = λ m no some. refl;
        hand = omega arith;
        sits = tt;
        before = ap is_loaded kept ∙ sym (ap is_active carried_there);
        after = refl;
      } in
      let q = after_record w number p r (Cont s (Some t)) in
      let v = with_shared u (placed u.shared (Some t) fast.Running) in
      let places = moved-places set e u cs h s r q v k a c new is known t fast.Running (place.Running p) i in (
        moved-held set e u cs h s r q v k a c new is known t fast.Running (place.Running p) i (record {
          space = l.space;
          locks = locks_now;
          cont = sym in_copies;
          hand = hand;
          place = λ n carries. let same : t ≡ n = same_Some t n (sym at ∙ carries) in
              ap (λ m. (thread_in (space_at q.state s) m).place) (sym same) ∙ places.here ∙ ap place.Running (sym now)
              ∙ ap (λ g. place_of g life.proc) (sym stage);
          kept = λ n carries. let same : t ≡ n = same_Some t n (sym at ∙ carries) in
              ap (λ (m : ThreadNo). place_at v.shared m.0) (sym same) ∙ places.kept_here ∙ ap kept_of (sym stage);
          stopped = λ n some. places.kept_there n (λ same. absurd (
              let at_t : 1 ≤ stopped_in fs t.0 = subst (λ m. 1 ≤ stopped_in fs m) same some in
              let rest = stopped_beside u.shared.works new t.0 at_t in let less = beside_less t.0 in omega arith)) ∙ l.stopped n (omega arith);
          named = λ not_running. absurd (let yes : is_running (stage_of r s a life) ≡ true = ap is_running stage in cc);
        }),
        carried_there,
      )

  pub cont-needs : owner_at r.state p ≡ Some s → NobodyRuns r.state p → Needs w p r (Cont s f.thread)
  cont-needs owner nobody = (owner, nobody, (continues f.thread refl).1)
