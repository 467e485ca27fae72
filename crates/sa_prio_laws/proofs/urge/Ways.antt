-- A running thread gives way: what holds after that.
use Rattle.std.proofs.Common.{◌≡◌, ℕ, ◌+◌, ◌<◌, true, false, ◌||◌, [], length, Some, None, refl, sym, ap, ◌∙◌, inl, inr, arith}
use Rattle.std.proofs.lemmas.Bool.{cases_eq, cases_lt}
use Rattle.sa_base.specs.declared.number.ActNo.{ActNo}
use Rattle.sa_base.specs.declared.number.ProcNo.{ProcNo}
use Rattle.sa_base.specs.declared.number.SpaceNo.{SpaceNo}
use Rattle.sa_base.specs.declared.number.ThreadNo.{ThreadNo}
use Rattle.sa_base.specs.declared.record.Record.TheVariants.{Back}
use Rattle.sa_spaces.specs.Workload.{WorkloadView}
use Rattle.sa_fast.proofs.Moves.{WorkStep}
use Rattle.sa_fast.proofs.WorkSteps.{one_same}
use Rattle.sa_fast.specs.Rest.{one_of}
use Rattle.sa_fast.specs.Threads.{is_loaded, block_at}
use Rattle.sa_fast.specs.Work.{with_name}
use Rattle.sa_fast.specs.declared.threads.Block.{Block}
use Rattle.sa_fast.specs.declared.threads.KeptPlace.TheVariants as fast
use Rattle.sa_abstract.specs.Calls.{Contexts}
use Rattle.sa_abstract.specs.Setting.{Setting}
use Rattle.sa_package_model.proofs.Holding.{own_work, own_below, thread_once}
use Rattle.sa_package_model.proofs.Parts.{due-step}
use Rattle.sa_package_model.proofs.WorkRule.{between_due}
use Rattle.sa_package_model.specs.Rules.{put_last, due_last}
use Rattle.sa_package_model.specs.Stands.{IsStanding}
use Rattle.sa_package_model.specs.declared.context.Context.{Context}
use Rattle.sa_package_model.specs.declared.context.ContextState.TheVariants.{User, Work}
use Rattle.sa_package_model.specs.declared.package.Package.{Package}
use Rattle.sa_laws.specs.Life.{Life}
use Rattle.sa_laws.specs.Readings.{Readings, running_of, life_of}
use Rattle.sa_laws.specs.Record.{after_record, back_with, one_thread}
use Rattle.sa_laws.specs.State.{space_at, is_active}
use Rattle.sa_laws.specs.declared.place.Place.TheVariants as place
use Rattle.sa_fast_laws.proofs.relation.Hands.{split, held-append, held-one, count-less}
use Rattle.sa_fast_laws.proofs.relation.Moved.{IsMoved, moved-places, moved-held}
use Rattle.sa_fast_laws.proofs.relation.OneLife.{IsHeld}
use Rattle.sa_fast_laws.proofs.relation.Places.{block-here, block-there, life-changed}
use Rattle.sa_fast_laws.proofs.relation.ThreadsBeside.{life-here}
use Rattle.sa_fast_laws.specs.FastFits.{Holds}
use Rattle.sa_fast_laws.specs.Life.{beside, carried, held, HasHand, HasLife}
use Rattle.sa_fast_laws.specs.Stage.{stage_of, is_gone, is_running, place_of, kept_of, Runs}
use Rattle.sa_fast_laws.specs.View.{view}

module _ (set : Setting) (e : ℕ) (u : Package) (cs : Contexts Context) (h : IsStanding set e u cs) (s : SpaceNo) (r : Readings) (k : Holds s r u cs)
    (a : ActNo) (t : ThreadNo) (is : cs a.0 ≡ Some (record { state = User t; sections = []; work = None }))
    (w : WorkloadView) (number : ℕ) (p : ProcNo) (life : Life) (runs : running_of r p ≡ Some a) (there : life_of r a ≡ Some life)
    (of : life.space ≡ s) (known : s.0 < length r.state.spaces) where
  abbrev c : Context
  c = record { state = User t; sections = []; work = None }

  -- after it the thread is alone in its context's work list
  abbrev pub gone_way : Context
  gone_way = record { state = Work None; sections = []; work = Some t }

  abbrev pub way_package : Package
  way_package = (put_last u (record { state = User t; sections = []; work = None }) (Some t)).user

  abbrev q : Readings
  q = after_record w number p r (Back s (Some t))

  l : HasLife s u.shared (space_at r.state s) (stage_of r s a life) (view c) life
  l = life-here s r u cs k a c life is there

  stage : stage_of r s a life ≡ Runs
  stage = (k.runs p a life runs there of).2

  step : WorkStep (with_name u.shared.works None) (due_last u.shared None (Some t)) (λ n. 0) (one_of (Some t))
  step = due-step u.shared None (Some t) h.parts.works (own_work set e u cs h a.0 c is) (between_due set e u cs h a.0 c is (Some t) refl refl)

  beside_more : (n : ℕ) → beside way_package.shared.works (view gone_way) n ≡ beside u.shared.works (view c) n + one_of (Some t) n
  beside_more n = let more = step.threads n in omega arith

  hand : HasHand way_package.shared.works (view gone_way) (is_gone (stage_of r s a life)) (back_with (Some t) life).hand
  hand = record {
    all = λ n some.
        let sum = held-append life.hand (one_thread (Some t)) n in let one = held-one t n in let more = beside_more n in
        elim (cases_lt (beside u.shared.works (view c) n) 1) [ inl none ↦ omega arith | inr has ↦ let was = l.hand.all n has in omega arith ];
    own = λ gone n some. absurd (let no_gone : is_gone (stage_of r s a life) ≡ false = ap is_gone stage in cc);
    only = λ n some.
        let sum = held-append life.hand (one_thread (Some t)) n in let one = held-one t n in let more = beside_more n in
        elim (cases_lt (held life.hand n) 1) [
          | inl none ↦ omega arith
          | inr has ↦ let was = l.hand.only n has in let less = count-less (is_gone (stage_of r s a life) || false) (carried (view c) n) in omega arith
        ];
  }

  pub way-held : IsHeld s r (after_record w number p r (Back s (Some t))) u way_package a (record { state = User t; sections = []; work = None }) gone_way
  way-held =
      let kept = l.kept t refl ∙ ap kept_of stage in
      let ran = l.place t refl ∙ ap (λ g. place_of g life.proc) stage in
      let one : one_of (Some t) t.0 ≡ 1 = one_same t.0 t.0 refl in
      let all = split u.shared.works c t.0 in
      let once = thread_once set e u cs h a.0 c is t.0 in
      let i : IsMoved s r q u way_package a c gone_way t fast.Carried place.Carried = record {
        state = refl;
        untold = refl;
        running = refl;
        was = life;
        old = there;
        life = back_with (Some t) life;
        lives = life-changed (back_with (Some t)) r p a life runs there;
        stays = (refl, refl, refl);
        threads = refl;
        sync = refl;
        made = refl;
        works = λ m no_name some. step.others m no_name some;
        hand = omega arith;
        sits = refl;
        before = ap is_loaded kept ∙ sym (ap is_active ran);
        after = refl;
      } in
      let places = moved-places set e u cs h s r q way_package k a c gone_way is known t fast.Carried place.Carried i in
      moved-held set e u cs h s r q way_package k a c gone_way is known t fast.Carried place.Carried i (record {
        space = l.space;
        locks = l.locks;
        cont = refl;
        hand = hand;
        place = λ n carries. absurd cc;
        kept = λ n carries. absurd cc;
        stopped = λ n some. absurd (omega arith);
        named = λ no_run. absurd (let yes : is_running (stage_of r s a life) ≡ true = ap is_running stage in cc);
      })

  -- the threads keep their programs
  pub way-programs : (n : ThreadNo) → (block_at way_package.shared.threads n.0).program ≡ (block_at u.shared.threads n.0).program
  way-programs n = elim (cases_eq n.0 t.0) [
    | inl same ↦
        ap (λ m. (block_at way_package.shared.threads m).program) same
        ∙ ap (λ (b : Block). b.program)
        (block-here u.shared t fast.Carried (let less = own_below set e u cs h a.0 c is t.0 (let all = split u.shared.works c t.0 in
        let one : one_of (Some t) t.0 ≡ 1 = one_same t.0 t.0 refl in omega arith) in let blocks = h.parts.blocks in omega arith))
        ∙ sym (ap (λ m. (block_at u.shared.threads m).program) same)
    | inr ne ↦ ap (λ (b : Block). b.program) (block-there u.shared t fast.Carried n.0 ne)
  ]
