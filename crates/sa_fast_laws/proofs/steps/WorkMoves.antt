-- The moves of a settled context with something left: it continues a section, takes its list for a push, or spins.
use Rattle.std.proofs.Common.{◌≡◌, ℕ, Bool, true, false, ◌||◌, ◌&&◌, List, [], ◌∷◌, Option, Some, None, is_none, slice_get, nat_le, refl, sym, ap, ◌∙◌, arith}
use Rattle.std.specs.Prelude.{nat_lt, length, ◌==◌}
use Rattle.std.proofs.lemmas.Option.{same_Some}
use Rattle.std.proofs.lemmas.Bool.{and_right}
use Rattle.sa_base.specs.declared.context.Seen.{Seen}
use Rattle.sa_base.specs.declared.limits.TheConstants.{PACKAGE_PAGE}
use Rattle.sa_base.specs.declared.number.ActNo.{ActNo}
use Rattle.sa_base.specs.declared.number.ProcNo.{ProcNo}
use Rattle.sa_base.specs.declared.number.SpaceNo.{SpaceNo}
use Rattle.sa_base.specs.declared.number.ThreadNo.{ThreadNo}
use Rattle.sa_base.specs.declared.record.Record.TheVariants as records
use Rattle.sa_lemmas.proofs.FunctionUpdates.{put-self}
use Rattle.sa_lemmas.specs.Function.{put}
use Rattle.sa_spaces.specs.Workload.{WorkloadView}
use Rattle.sa_lists.specs.ReadyView.{is_locked}
use Rattle.sa_code.specs.Micro.{Micro, micro, micro_at, is_resident as is_page_resident, taken}
use Rattle.sa_code.specs.declared.state.Frame.{Frame}
use Rattle.sa_copies.proofs.Places.{at_copies}
use Rattle.sa_copies.specs.Copies.{package_ops, copy_at}
use Rattle.sa_fast.specs.Instruction.{with_works}
use Rattle.sa_fast.specs.Work.{without_first}
use Rattle.sa_fast.specs.declared.threads.KeptPlace.TheVariants as kept
use Rattle.sa_abstract.specs.Calls.{Contexts}
use Rattle.sa_abstract.specs.Setting.{Setting}
use Rattle.sa_package_model.specs.Rules.{placed, pair, did, with_shared, push_of, pushing_by, own_list}
use Rattle.sa_package_model.specs.Step.{stepped}
use Rattle.sa_package_model.specs.declared.context.Context.{Context}
use Rattle.sa_package_model.specs.declared.context.ContextState.TheVariants.{Code, Work}
use Rattle.sa_package_model.specs.declared.package.Package.{Package}
use Rattle.sa_laws.specs.Event.{Event}
use Rattle.sa_laws.specs.History.{is_inside, stepped as ends}
use Rattle.sa_laws.specs.Life.{Life}
use Rattle.sa_laws.specs.Readings.{Readings, has_hand, demand_of, usable, many_taken, carried_by as runs_by}
use Rattle.sa_laws.specs.State.{space_at}
use Rattle.sa_laws.specs.Turns.{AnotherHas}
use Rattle.sa_user_laws.specs.Scene.{event_begun_at}
use Rattle.sa_fast_laws.proofs.relation.EventEnds.{begun-holds}
use Rattle.sa_fast_laws.proofs.relation.InsideMarks.{has-left, hand_some}
use Rattle.sa_fast_laws.proofs.relation.Still.{still-held}
use Rattle.sa_fast_laws.proofs.relation.ThreadsBeside.{life-here}
use Rattle.sa_fast_laws.specs.FastFits.{Holds}
use Rattle.sa_fast_laws.specs.Life.{IsMarked, HasLife}
use Rattle.sa_fast_laws.specs.Stage.{stage_of, is_gone}
use Rattle.sa_fast_laws.specs.View.{view, is_yield_op, is_lone}
use Rattle.sa_fast_laws.proofs.lists.Continues.{cont-needs, continues}
use Rattle.sa_fast_laws.proofs.lists.LockedLists.{locked-read}
use Rattle.sa_fast_laws.proofs.lists.Takes.{push_held}
use Rattle.sa_fast_laws.proofs.steps.CodeMoves.{inside-copy}
use Rattle.sa_fast_laws.proofs.steps.Events.{inside-locked}
use Rattle.sa_fast_laws.proofs.steps.Scenes.{IsScene}
use Rattle.sa_fast_laws.proofs.steps.Scenes as scene
use Rattle.sa_fast_laws.proofs.steps.Moves.{IsBehind, IsMove}

module _ (set : Setting) (e : ℕ) (u : Package) (cs : Contexts Context) (w : WorkloadView) (r : Readings) (p : ProcNo) (a : ActNo) (life : Life)
    (seen : Seen) where
  abbrev s : SpaceNo
  s = set.space

  abbrev r0 : Readings
  r0 = event_begun_at w seen.event p r

  abbrev n : ℕ
  n = seen.event

  -- A SECTION IS CONTINUED
  module _ (f : Frame) (fs : List Frame) (wk : Option ThreadNo)
      (i : IsScene set e u cs w r p a life (record { state = Work None; sections = f ∷ fs; work = wk }) seen) where
    abbrev c : Context
    c = record { state = Work None; sections = f ∷ fs; work = wk }

    abbrev pub with_cont : Package
    with_cont = with_shared u (placed u.shared f.thread kept.Running)

    abbrev pub behind_cont : Context
    behind_cont = record { state = Code f; sections = fs; work = wk }

    k0 : Holds set.space (event_begun_at w seen.event p r) u cs
    k0 = begun-holds set.space r u cs w (record { number = seen.event; proc = p; records = [] }) i.holds

    copy : copy_at f.pc ≡ Some f.pc
    copy = (i.stands.contexts a.0 c i.on.mine).sections.0.copy

    cont-marks : (v : Package) (now : Life) (q : Readings) (ev : Event) (last : Readings)
        → IsBehind set seen.event v (put cs a.0 (Some behind_cont)) a behind_cont now seen q last
        → IsMarked (view behind_cont) (ends is_inside w r ev last (records.Cont set.space f.thread) now)
    cont-marks v now q ev last b =
        let has = life-here set.space last v (put cs a.0 (Some behind_cont)) b.holds a behind_cont now b.mine b.there in
        let copies : nat_le 8 f.pc ≡ true =
        at_copies (λ i j. i ≡ j → nat_le 8 i ≡ true) (λ e. absurd (omega arith)) (λ e. absurd (omega arith)) (λ e. absurd (omega arith))
        (λ e. absurd (omega arith)) (λ e. refl) (λ e. refl) (λ e. refl) (λ e. refl) f.pc f.pc copy refl in
        let yields : is_yield_op (slice_get package_ops f.pc) ≡ false =
        at_copies (λ i j. is_yield_op (slice_get package_ops i) ≡ false) refl refl refl refl refl refl refl refl f.pc f.pc copy in
        record {
          inside = inside-copy w r ev last true now (has.cont ∙ copies);
          back = and_right now.cont false refl ∙ sym yields;
          scans = refl;
          left = refl;
          lone = lone_by fs copies;
        } where
          lone_by : (gs : List Frame) → nat_le 8 f.pc ≡ true → is_lone (Code f) gs ≡ true
          lone_by [] is = refl
          lone_by (g ∷ gs) is = is

    pub cont-move : IsMove set u cs w r p a life (record { state = Work None; sections = f ∷ fs; work = wk }) seen
        (records.Cont set.space f.thread) [] with_cont behind_cont
    cont-move =
        let known = scene.known set e u cs w r p a life c seen i in
        let space = scene.space set e u cs w r p a life c seen i in
        let runner = scene.runner set e u cs w r p a life c seen i in
        record {
          step = ap (λ q. did (pair with_cont behind_cont) (records.Cont q f.thread ∷ [])) space;
          first = refl;
          no_up = refl;
          needs = (cont-needs set e u cs i.stands s r0 k0 a f fs wk i.on.mine w n p life i.on.runs i.on.is i.on.space known i.on.owner runner, tt);
          back = sym i.own.back;
          held = (continues set e u cs i.stands s r0 k0 a f fs wk i.on.mine w n p life i.on.runs i.on.is i.on.space known f.thread refl).0;
          demands = refl;
          taken = refl;
          marks = λ ev last b. cont-marks with_cont _ _ ev last b;
        }

  -- THE NEXT THREAD IS MADE READY: the list that counts as the processor's own is taken, or is locked
  module _ (t : Option ThreadNo) (one : ThreadNo)
      (i : IsScene set e u cs w r p a life (record { state = Work t; sections = []; work = Some one }) seen) where
    abbrev d : Context
    d = record { state = Work t; sections = []; work = Some one }

    abbrev pub with_push : Package
    with_push =
        with_shared u
        (with_works (record u.shared { state = (taken u.shared.state (push_of p (own_list u seen.proc) one t) (own_list u seen.proc) false).state })
        (without_first u.shared.works one))

    abbrev pub behind_push : Context
    behind_push =
        record {
          state = Code (record { pc = 1; list = Some (own_list u seen.proc); own = (own_list u seen.proc).0 == p.0; pushed = Some one; thread = t });
          sections = [];
          work = (without_first u.shared.works one).name;
        }

    pub k1 : Holds set.space (event_begun_at w seen.event p r) u cs
    k1 = begun-holds set.space r u cs w (record { number = seen.event; proc = p; records = [] }) i.holds

    pub here : HasLife set.space u.shared (space_at r.state set.space) (stage_of (event_begun_at w seen.event p r) set.space a life) (view d) life
    here = life-here set.space (event_begun_at w seen.event p r) u cs k1 a d life i.on.mine i.on.is

    stays_there : is_gone (stage_of (event_begun_at w seen.event p r) set.space a life) ≡ false
    stays_there = ap is_gone (k1.runs p a life i.on.runs i.on.is i.on.space).2

    -- its life has a thread in its hand
    pub has-one : has_hand r life ≡ true
    has-one = hand_some set e u cs i.stands set.space r0 k1 a (Work t) [] (Some one) i.on.mine life i.on.is stays_there refl refl one refl

    m_is : micro u.shared.state (push_of seen.proc (own_list u seen.proc) one t) seen.pages ≡ taken u.shared.state (push_of p (own_list u seen.proc) one t)
        (own_list u seen.proc)
        (is_locked u.shared.state.lists (own_list u seen.proc).0)
    m_is = ap (λ q. micro u.shared.state (push_of q (own_list u seen.proc) one t) seen.pages) i.sees.proc
        ∙ ap
        (λ ops. micro_at u.shared.state (push_of p (own_list u seen.proc) one t) (is_page_resident seen.pages PACKAGE_PAGE) (own_list u seen.proc)
        (slice_get ops 0)) i.stands.code

    step_by : (b : Bool) → is_locked u.shared.state.lists (own_list u seen.proc).0 ≡ b → let m =
        taken u.shared.state (push_of p (own_list u seen.proc) one t) (own_list u seen.proc) b in stepped u seen d ≡ pushing_by u d one m m.done
    step_by b is =
        ap (λ (m : Micro). pushing_by u d one m m.done) (m_is ∙ ap (taken u.shared.state (push_of p (own_list u seen.proc) one t) (own_list u seen.proc)) is)

    push-marks : (v : Package) (now : Life) (q : Readings) (ev : Event) (last : Readings)
        → IsBehind set seen.event v (put cs a.0 (Some behind_push)) a behind_push now seen q last
        → IsMarked (view behind_push) (ends is_inside w r ev last (records.Take set.space (own_list u seen.proc) t) now)
    push-marks v now q ev last b =
        let has = life-here set.space last v (put cs a.0 (Some behind_push)) b.holds a behind_push now b.mine b.there in
        record {
          inside = inside-locked w r ev last true now _ [] has.locks;
          back = and_right now.cont false refl;
          scans = refl;
          left = refl;
          lone = refl;
        }

    pub push-move : is_locked u.shared.state.lists (own_list u seen.proc).0 ≡ false
        → IsMove set u cs w r p a life (record { state = Work t; sections = []; work = Some one }) seen
        (records.Take set.space (own_list u seen.proc) t) [] with_push behind_push
    push-move free =
        let space = scene.space set e u cs w r p a life d seen i in
        record {
          step = step_by false free ∙ ap (λ q. did (pair with_push behind_push) (records.Take q (own_list u seen.proc) t ∷ [])) space;
          first = refl;
          no_up = refl;
          needs = (tt, tt);
          back = sym i.own.back;
          held = push_held set e u cs i.stands s r0 k1 a w n p life i.on.runs i.on.is t one i.on.mine (own_list u seen.proc) free;
          demands = refl;
          taken = refl;
          marks = λ ev last b. push-marks with_push _ _ ev last b;
        }

    spin-marks : (now : Life) (q : Readings) (ev : Event) (last : Readings)
        → IsBehind set seen.event u (put cs a.0 (Some (record { state = Work t; sections = []; work = Some one }))) a
        (record { state = Work t; sections = []; work = Some one }) now seen q last
        → IsMarked (view (record { state = Work t; sections = []; work = Some one })) (ends is_inside w r ev last (records.Spin (own_list u seen.proc)) now)
    spin-marks now q ev last b =
        let left =
        has-left set seen.event u (put cs a.0 (Some d)) b.stands set.space last b.holds a (Work t) [] (Some one) b.mine now b.there
        (ap is_gone b.stage) refl refl in
        record {
          inside = ap (λ z. z || nat_lt (demand_of last now.space) (usable w last now.space) || (is_none (runs_by last now) && many_taken last now.space)) left;
          back = and_right now.cont false refl;
          scans = refl;
          left = refl;
          lone = refl;
        }

    pub spin-move : is_locked u.shared.state.lists (own_list u seen.proc).0 ≡ true
        → IsMove set u cs w r p a life (record { state = Work t; sections = []; work = Some one }) seen (records.Spin (own_list u seen.proc)) [] u
        (record { state = Work t; sections = []; work = Some one })
    spin-move locked = record {
      step = step_by true locked;
      first = refl;
      no_up = refl;
      needs = (tt, tt);
      back = sym i.own.back;
      held = still-held s r0 _ u u cs k1 a d d i.on.mine (record {
        space = refl;
        untold = refl;
        running = refl;
        was = life;
        old = i.on.is;
        life = life;
        lives = sym (ap (put r.lives a.0) (sym i.on.is) ∙ put-self r.lives a.0);
        stays = (refl, refl, refl);
        threads = refl;
        sync = refl;
        made = refl;
        works = λ m none some. refl;
        carries = refl;
        sections = λ n some. some;
        locks = here.locks;
        cont = here.cont;
        hand = here.hand;
      });
      demands = refl;
      taken = refl;
      marks = λ ev last b. spin-marks _ _ ev last b;
    }

    -- where it spins another life has the lock
    pub spin-held : is_locked u.shared.state.lists (own_list u seen.proc).0 ≡ true → AnotherHas (event_begun_at w seen.event p r) a life.space (own_list u seen.proc)
    spin-held locked =
        let other = locked-read set e u cs i.stands set.space r0 k1 (own_list u seen.proc) locked in
        record {
          other = other.act;
          apart = λ same. absurd (
              let one_life : life ≡ other.life =
              same_Some life other.life (sym i.on.is ∙ ap (λ (y : ActNo). r.lives y.0) (sym same) ∙ other.is) in
              let empty : length other.life.locks ≡ 0 = ap (λ (y : Life). length y.locks) (sym one_life) ∙ ap length here.locks in
              let some = other.has.among.1 in omega arith);
          life = other.life;
          is = other.is;
          has = record { space = other.has.space ∙ sym i.on.space; lock = other.has.lock; among = other.has.among; list = other.has.list };
        }
