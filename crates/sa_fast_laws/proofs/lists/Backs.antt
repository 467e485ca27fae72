-- A copy gives control back: its thread comes last in the work list.
use Rattle.std.proofs.Common.{◌≡◌, ℕ, ◌+◌, ◌<◌, true, false, ◌||◌, List, length, Option, Some, None, refl, sym, ap, ◌∙◌, subst, inl, inr, arith}
use Rattle.std.proofs.lemmas.Bool.{cases_eq, cases_lt}
use Rattle.sa_base.specs.declared.number.ActNo.{ActNo}
use Rattle.sa_base.specs.declared.number.ProcNo.{ProcNo}
use Rattle.sa_base.specs.declared.number.SpaceNo.{SpaceNo}
use Rattle.sa_base.specs.declared.number.ThreadNo.{ThreadNo}
use Rattle.sa_base.specs.declared.record.Record.TheVariants.{Back}
use Rattle.sa_spaces.specs.Workload.{WorkloadView}
use Rattle.sa_code.specs.declared.state.Frame.{Frame}
use Rattle.sa_fast.proofs.Moves.{WorkStep}
use Rattle.sa_fast.proofs.WorkSteps.{one_same}
use Rattle.sa_fast.specs.Rest.{one_of, place_at}
use Rattle.sa_fast.specs.Threads.{is_loaded}
use Rattle.sa_fast.specs.Work.{with_name}
use Rattle.sa_fast.specs.declared.threads.KeptPlace.TheVariants as fast
use Rattle.sa_abstract.specs.Calls.{Contexts}
use Rattle.sa_abstract.specs.Setting.{Setting}
use Rattle.sa_package_model.proofs.Holding.{own_work, thread_once}
use Rattle.sa_package_model.proofs.Parts.{due-step}
use Rattle.sa_package_model.proofs.WorkRule.{between_due}
use Rattle.sa_package_model.specs.Context.{carried_by, section_in}
use Rattle.sa_package_model.specs.Rules.{placed, put_last, due_last}
use Rattle.sa_package_model.specs.Stands.{IsStanding}
use Rattle.sa_package_model.specs.declared.context.Context.{Context}
use Rattle.sa_package_model.specs.declared.context.ContextState.{ContextState}
use Rattle.sa_package_model.specs.declared.context.ContextState.TheVariants.{Code}
use Rattle.sa_package_model.specs.declared.package.Package.{Package}
use Rattle.sa_laws.specs.Life.{Life}
use Rattle.sa_laws.specs.Readings.{Readings, running_of, life_of}
use Rattle.sa_laws.specs.Record.{after_record, back_with, one_thread}
use Rattle.sa_laws.specs.State.{space_at, is_active, placed_if}
use Rattle.sa_laws.specs.declared.place.Place.TheVariants as place
use Rattle.sa_fast_laws.proofs.relation.Hands.{split, held-append, held-thread, count-less}
use Rattle.sa_fast_laws.proofs.relation.Moved.{IsMoved, moved-places, moved-held}
use Rattle.sa_fast_laws.proofs.relation.OneLife.{IsHeld}
use Rattle.sa_fast_laws.proofs.relation.Places.{life-changed}
use Rattle.sa_fast_laws.proofs.relation.Still.{still-held}
use Rattle.sa_fast_laws.proofs.relation.ThreadsBeside.{life-here}
use Rattle.sa_fast_laws.specs.FastFits.{Holds}
use Rattle.sa_fast_laws.specs.Life.{locks_from, pushed_in, beside, carried, held, HasHand, HasLife}
use Rattle.sa_fast_laws.specs.Stage.{stage_of, is_gone, is_running, place_of, kept_of, Runs}
use Rattle.sa_fast_laws.specs.View.{view, in_copy}

module _ (set : Setting) (e : ℕ) (u : Package) (cs : Contexts Context) (h : IsStanding set e u cs) (s : SpaceNo) (r : Readings) (k : Holds s r u cs)
    (a : ActNo) (f : Frame) (fs : List Frame) (wk : Option ThreadNo) (is : cs a.0 ≡ Some (record { state = Code f; sections = fs; work = wk }))
    (w : WorkloadView) (number : ℕ) (p : ProcNo) (life : Life) (runs : running_of r p ≡ Some a) (there : life_of r a ≡ Some life)
    (of : life.space ≡ s)
    (known : s.0 < length r.state.spaces) (ends : section_in (Code f) ≡ None)
    (state : ContextState) (out : section_in state ≡ None) (bare : carried_by state ≡ None) (no_copy : in_copy state ≡ false) where
  abbrev c : Context
  c = record { state = Code f; sections = fs; work = wk }

  l : HasLife s u.shared (space_at r.state s) (stage_of r s a life) (view c) life
  l = life-here s r u cs k a c life is there

  stage : stage_of r s a life ≡ Runs
  stage = (k.runs p a life runs there of).2

  step : WorkStep (with_name u.shared.works wk) (due_last u.shared wk f.thread) (λ n. 0) (one_of f.thread)
  step = due-step u.shared wk f.thread h.parts.works (own_work set e u cs h a.0 c is) (between_due set e u cs h a.0 c is f.thread ends refl)

  abbrev new : Context
  new = record { state = state; sections = fs; work = (due_last u.shared wk f.thread).name }

  abbrev v : Package
  v = (put_last u c f.thread).user

  beside_more : (n : ℕ) → beside v.shared.works (view new) n ≡ beside u.shared.works (view c) n + one_of f.thread n
  beside_more n =
      let more = step.threads n in
      let old : pushed_in (section_in (Code f)) n ≡ 0 = ap (λ o. pushed_in o n) ends in
      let now : pushed_in (section_in state) n ≡ 0 = ap (λ o. pushed_in o n) out in omega arith

  hand : HasHand v.shared.works (view new) (is_gone (stage_of r s a life)) (back_with f.thread life).hand
  hand = record {
    all = λ n some.
        let sum = held-append life.hand (one_thread f.thread) n in let one = held-thread f.thread n in let more = beside_more n in
        elim (cases_lt (beside u.shared.works (view c) n) 1) [ inl none ↦ omega arith | inr has ↦ let was = l.hand.all n has in omega arith ];
    own = λ gone n some. absurd (let no_gone : is_gone (stage_of r s a life) ≡ false = ap is_gone stage in cc);
    only = λ n some.
        let sum = held-append life.hand (one_thread f.thread) n in let one = held-thread f.thread n in let more = beside_more n in
        elim (cases_lt (held life.hand n) 1) [
          | inl none ↦ omega arith
          | inr has ↦ let was = l.hand.only n has in let less = count-less (is_gone (stage_of r s a life) || in_copy (Code f)) (carried (view c) n) in
              omega arith
        ];
  }

  locks_now : life.locks ≡ locks_from (in_copy state) (section_in state) fs
  locks_now = l.locks ∙ ap (λ o. locks_from (in_copy (Code f)) o fs) ends ∙ sym (ap (λ o. locks_from (in_copy state) o fs) out)

  pub back-held : (o : Option ThreadNo) → f.thread ≡ o → IsHeld s r (after_record w number p r (Back s o)) u v a c new
  back-held None none =
      subst (λ o. IsHeld s r (after_record w number p r (Back s o)) u v a c new) none
      (still-held s r (after_record w number p r (Back s f.thread)) u v cs k a c new is (record {
        space = ap (λ o. space_at (placed_if r.state s o place.Carried) s) none;
        untold = refl;
        running = refl;
        was = life;
        old = there;
        life = back_with f.thread life;
        lives = life-changed (back_with f.thread) r p a life runs there;
        stays = (refl, refl, refl);
        threads = ap (λ o. (placed u.shared o fast.Carried).threads) none;
        sync = refl;
        made = refl;
        works = λ m no_name some. step.others m no_name some;
        carries = bare ∙ sym none;
        sections = λ n some. some;
        locks = locks_now;
        cont = sym no_copy;
        hand = hand;
      }))
  back-held (Some t) at =
      subst (λ o. IsHeld s r (after_record w number p r (Back s o)) u v a c new) at (
      let q = after_record w number p r (Back s f.thread) in
      let kept = l.kept t at ∙ ap kept_of stage in
      let ran = l.place t at ∙ ap (λ g. place_of g life.proc) stage in
      let one : one_of f.thread t.0 ≡ 1 = ap (λ o. one_of o t.0) at ∙ one_same t.0 t.0 refl in
      let all = split u.shared.works c t.0 in
      let once = thread_once set e u cs h a.0 c is t.0 in
      let i : IsMoved s r q u v a c new t fast.Carried place.Carried = record {
        state = ap (λ o. placed_if r.state s o place.Carried) at;
        untold = refl;
        running = refl;
        was = life;
        old = there;
        life = back_with f.thread life;
        lives = life-changed (back_with f.thread) r p a life runs there;
        stays = (refl, refl, refl);
        threads = ap (λ o. (placed u.shared o fast.Carried).threads) at;
        sync = refl;
        made = refl;
        works = λ m no_name some. step.others m no_name some;
        hand = omega arith;
        sits = refl;
        before = ap is_loaded kept ∙ sym (ap is_active ran);
        after = refl;
      } in
      let places = moved-places set e u cs h s r q v k a c new is known t fast.Carried place.Carried i in
      moved-held set e u cs h s r q v k a c new is known t fast.Carried place.Carried i (record {
        space = l.space;
        locks = locks_now;
        cont = sym no_copy;
        hand = hand;
        place = λ n carries. absurd (let no_such = sym bare ∙ carries in cc);
        kept = λ n carries. absurd (let no_such = sym bare ∙ carries in cc);
        stopped = λ n some. elim (cases_eq n.0 t.0) [
          | inl same ↦ ap (λ j. place_at v.shared j) same ∙ places.kept_here
          | inr ne ↦ places.kept_there n ne ∙ l.stopped n some
        ];
        named = λ no_run. absurd (let yes : is_running (stage_of r s a life) ≡ true = ap is_running stage in cc);
      }))
