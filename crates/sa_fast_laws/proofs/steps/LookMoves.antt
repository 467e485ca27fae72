-- The moves of a look at the ready lists: a take for a pop, an idle record, or the hint that the processor is idle; and the
-- hint for more.
use Rattle.std.proofs.Common.{◌≡◌, ℕ, ◌+◌, Bool, true, false, [], ◌∷◌, Option, Some, None, is_some, slice_get, refl, sym, ap, ◌∙◌, subst, arith}
use Rattle.std.specs.Prelude.{nat_lt, min, not, ◌-◌, ◌≤◌, ◌==◌, if◌then◌else◌}
use Rattle.std.proofs.lemmas.Bool.Decides.{nat_tests}
use Rattle.std.proofs.lemmas.Option.{same_Some}
use Rattle.std.proofs.lemmas.Bool.{and_right, not-true, and_parts}
use Rattle.sa_base.specs.declared.context.Seen.{Seen}
use Rattle.sa_base.specs.declared.limits.TheConstants.{PACKAGE_PAGE}
use Rattle.sa_base.specs.declared.number.ActNo.{ActNo}
use Rattle.sa_base.specs.declared.number.ProcNo.{ProcNo}
use Rattle.sa_base.specs.declared.number.SpaceNo.{SpaceNo}
use Rattle.sa_base.specs.declared.number.ThreadNo.{ThreadNo}
use Rattle.sa_base.specs.declared.record.Record.TheVariants as records
use Rattle.sa_lemmas.proofs.FunctionUpdates.{put-self, put-same}
use Rattle.sa_lemmas.specs.Function.{put}
use Rattle.sa_instr.specs.declared.limits.TheConstants.{MAX_PATIENCE}
use Rattle.sa_spaces.specs.Workload.{WorkloadView}
use Rattle.sa_lists.proofs.Rounds.{sought-first}
use Rattle.sa_lists.specs.ReadyView.{is_locked, processor, sought}
use Rattle.sa_code.specs.Micro.{micro_at, is_resident as is_page_resident, taken, micro}
use Rattle.sa_abstract.specs.Calls.{Contexts, Stepped}
use Rattle.sa_abstract.specs.Setting.{Setting}
use Rattle.sa_abstract.specs.declared.answer.Step.TheVariants as asked
use Rattle.sa_package_model.proofs.Views.{settled_between}
use Rattle.sa_package_model.specs.Context.{settled_to, has_bulk}
use Rattle.sa_package_model.specs.Rules.{pair, did, with_package, owed, asks, is_idle, pop_of, popping_by, looked_by, own_list}
use Rattle.sa_package_model.specs.Step.{stepped, answered}
use Rattle.sa_package_model.specs.declared.context.Context.{Context}
use Rattle.sa_package_model.specs.declared.context.ContextState.TheVariants.{Code, Hint, Look}
use Rattle.sa_package_model.specs.declared.package.Package.{Package}
use Rattle.sa_laws.specs.Event.{Event}
use Rattle.sa_laws.specs.History.{is_inside, stepped as ends, after_records}
use Rattle.sa_laws.specs.Life.{Life}
use Rattle.sa_laws.specs.Readings.{Readings, demand_of}
use Rattle.sa_user_laws.specs.Scene.{event_begun_at}
use Rattle.sa_fast_laws.proofs.relation.EventEnds.{begun-holds, same-holds}
use Rattle.sa_fast_laws.proofs.relation.InsideMarks.{settled-copy, unsettled-inside}
use Rattle.sa_fast_laws.proofs.relation.OneLife.{IsHeld}
use Rattle.sa_fast_laws.proofs.relation.Restated.{restated}
use Rattle.sa_fast_laws.proofs.relation.SettledMarks.{settled-marked}
use Rattle.sa_fast_laws.proofs.relation.Still.{still-held}
use Rattle.sa_fast_laws.proofs.relation.ThreadsBeside.{life-here}
use Rattle.sa_fast_laws.specs.FastFits.{Holds}
use Rattle.sa_fast_laws.specs.Life.{IsMarked}
use Rattle.sa_fast_laws.specs.Stage.{is_gone}
use Rattle.sa_fast_laws.specs.View.{view}
use Rattle.sa_fast_laws.proofs.lists.Takes.{pop_held}
use Rattle.sa_fast_laws.proofs.steps.Asks.{IsAsking}
use Rattle.sa_fast_laws.proofs.steps.Events.{inside-locked}
use Rattle.sa_fast_laws.proofs.steps.Hints.{scans_more}
use Rattle.sa_fast_laws.proofs.steps.Scenes.{IsScene}
use Rattle.sa_fast_laws.proofs.steps.Scenes as scene
use Rattle.sa_fast_laws.proofs.steps.Moves.{IsBehind, IsMove}

-- a want of as many, and of more
pub not_less : (n m : ℕ) → nat_lt (n + m) n ≡ false
not_less n m = grind (arith, nat_tests)

pub one_less : (n : ℕ) → 1 ≤ n → nat_lt (n - 1) n ≡ true
one_less n some = grind (arith, nat_tests)

-- a look on this processor
abbrev looked_on : Package → Seen → Context → ℕ → ProcNo → Bool → Option ℕ → Stepped Package Context
looked_on u seen c looks q idle (Some l) = let m = micro u.shared.state (pop_of q l) seen.pages in popping_by u c m m.done
looked_on u seen c looks q idle None = looked_by u seen c looks idle None

looked-same : (u : Package) (seen : Seen) (c : Context) (looks : ℕ) (idle : Bool) (o : Option ℕ)
    → looked_by u seen c looks idle o ≡ looked_on u seen c looks seen.proc idle o
looked-same u seen c looks idle (Some l) = refl
looked-same u seen c looks idle None = refl

module _ (set : Setting) (e : ℕ) (u : Package) (cs : Contexts Context) (w : WorkloadView) (r : Readings) (p : ProcNo) (a : ActNo) (life : Life)
    (seen : Seen) where
  abbrev s : SpaceNo
  s = set.space

  abbrev r0 : Readings
  r0 = event_begun_at w seen.event p r

  abbrev n : ℕ
  n = seen.event

  module _ (looks : ℕ) (i : IsScene set e u cs w r p a life (record { state = Look looks; sections = []; work = None }) seen) where
    abbrev c : Context
    c = record { state = Look looks; sections = []; work = None }

    k0 : Holds set.space (event_begun_at w seen.event p r) u cs
    k0 = begun-holds set.space r u cs w (record { number = seen.event; proc = p; records = [] }) i.holds

    -- what is looked for, from the list on that counts as the processor's own
    abbrev pub found : Option ℕ
    found = sought u.shared.state.lists (own_list u seen.proc).0

    look-is : stepped u seen c ≡ looked_on u seen c looks p (is_idle u seen looks) (sought u.shared.state.lists (own_list u seen.proc).0)
    look-is = looked-same u seen c looks (is_idle u seen looks) (sought u.shared.state.lists (own_list u seen.proc).0)
        ∙ ap (λ q. looked_on u seen c looks q (is_idle u seen looks) (sought u.shared.state.lists (own_list u seen.proc).0)) i.sees.proc

    -- A TAKE
    module _ (l : ℕ) (found_it : sought u.shared.state.lists (own_list u seen.proc).0 ≡ Some l) where
      abbrev pub with_pop : Package
      with_pop = with_package u (taken u.shared.state (pop_of p l) (processor l) false).state

      abbrev pub behind_pop : Context
      behind_pop =
          record { state = Code (record { pc = 5; list = Some (processor l); own = l == p.0; pushed = None; thread = None }); sections = []; work = None }

      free : is_locked u.shared.state.lists l ≡ false
      free =
          not-true (is_locked u.shared.state.lists l) (and_parts (not (is_locked u.shared.state.lists l)) _
          (sought-first u.shared.state.lists (own_list u seen.proc).0 l (scene.list-inside set e u cs w r p a life c seen i) found_it).here).0

      pop-marks : (v : Package) (now : Life) (q : Readings) (ev : Event) (last : Readings)
          → IsBehind set seen.event v (put cs a.0 (Some behind_pop)) a behind_pop now seen q last
          → IsMarked (view behind_pop) (ends is_inside w r ev last (records.Take set.space (processor l) None) now)
      pop-marks v now q ev last b =
          let has = life-here set.space last v (put cs a.0 (Some behind_pop)) b.holds a behind_pop now b.mine b.there in
          record { inside = inside-locked w r ev last true now _ [] has.locks; back = and_right now.cont false refl; scans = refl; left = refl; lone = refl }

      pub pop-move : IsMove set u cs w r p a life (record { state = Look looks; sections = []; work = None }) seen
          (records.Take set.space (processor l) None) [] with_pop behind_pop
      pop-move =
          let space = scene.space set e u cs w r p a life c seen i in
          let f = pop_of p l in
          record {
            step =
                look-is
                ∙ ap (looked_on u seen c looks p (is_idle u seen looks)) found_it
                ∙ ap
                (λ ops. let m = micro_at u.shared.state f (is_page_resident seen.pages PACKAGE_PAGE) (processor l) (slice_get ops 4) in
                popping_by u c m m.done) i.stands.code
                ∙ ap (λ b. let m = taken u.shared.state f (processor l) b in popping_by u c m m.done) free
                ∙ ap (λ o. did (pair with_pop behind_pop) (records.Take o (processor l) None ∷ [])) space;
            first = refl;
            no_up = refl;
            needs = (tt, tt);
            back = sym i.own.back;
            held = pop_held set e u cs i.stands s r0 k0 a w n p life i.on.runs i.on.is looks i.on.mine l;
            demands = refl;
            taken = refl;
            marks = λ ev last b. pop-marks with_pop _ _ ev last b;
          }

    -- AN IDLE RECORD
    abbrev pub behind_idle : Context
    behind_idle = record { state = Look (min (looks + 1) MAX_PATIENCE); sections = []; work = None }

    idle-marks : (now : Life) → now ≡ life → (q : Readings) (ev : Event) (last : Readings)
        → IsBehind set seen.event u (put cs a.0 (Some behind_idle)) a behind_idle now seen q last
        → IsMarked (view behind_idle) (ends is_inside w r ev last records.Idle now)
    idle-marks now same q ev last b =
        let left =
        unsettled-inside set seen.event u (put cs a.0 (Some behind_idle)) b.stands set.space last b.holds a
        (Look (min (looks + 1) MAX_PATIENCE)) [] None b.mine now b.there (ap is_gone b.stage) refl refl w r ev in
        record {
          inside = left;
          back = and_right now.cont false refl;
          scans = scans_more now.scans looks (ap (λ (l : Life). min l.scans MAX_PATIENCE) same ∙ i.own.scans);
          left = refl;
          lone = refl;
        }

    pub idle-move : sought u.shared.state.lists (own_list u seen.proc).0 ≡ None → is_idle u seen looks ≡ false
        → IsMove set u cs w r p a life (record { state = Look looks; sections = []; work = None }) seen records.Idle [] u behind_idle
    idle-move none calm =
        let here = life-here set.space (event_begun_at w seen.event p r) u cs k0 a c life i.on.mine i.on.is in
        let held : IsHeld set.space (event_begun_at w seen.event p r)
        (after_records w seen.event p (event_begun_at w seen.event p r)
        (records.Idle ∷ [])) u u a c behind_idle = still-held s r0 _ u u cs k0 a c behind_idle i.on.mine (record {
          space = refl;
          untold = refl;
          running = refl;
          was = life;
          old = i.on.is;
          life = life;
          lives = sym (ap (put r.lives a.0) (sym i.on.is) ∙ put-self r.lives a.0);
          stays = (refl, refl, refl);
          threads = refl;
          sync = refl;
          made = refl;
          works = λ m none some. refl;
          carries = refl;
          sections = λ n some. some;
          locks = here.locks;
          cont = here.cont;
          hand = record { all = λ n some. here.hand.all n some; own = λ gone n some. here.hand.own gone n some; only = λ n some. here.hand.only n some };
        }) in
        let same : held.life ≡ life =
        same_Some held.life life (sym (ap (λ (f : ℕ → Option Life). f a.0) held.lives ∙ put-same r.lives a.0 (Some held.life)) ∙ i.on.is) in
        record {
          step =
              look-is
              ∙ ap (looked_on u seen c looks p (is_idle u seen looks)) none
              ∙ ap (λ b. looked_on u seen c looks p b None) calm;
          first = refl;
          no_up = refl;
          needs = (tt, tt);
          back = sym i.own.back;
          held = held;
          demands = refl;
          taken = refl;
          marks = λ ev last b. idle-marks held.life same _ ev last b;
        }

    -- THE HINT that the processor is idle, where something was announced
    pub lower-is : sought u.shared.state.lists (own_list u seen.proc).0 ≡ None → is_idle u seen looks ≡ true → stepped u seen c ≡ asks (pair u c) asked.Idle
    lower-is none idle =
        look-is
        ∙ ap (looked_on u seen c looks p (is_idle u seen looks)) none
        ∙ ap (λ b. looked_on u seen c looks p b None) idle

    pub lower-move : nat_lt (demand_of r set.space - 1) (demand_of r set.space) ≡ true
        → IsAsking set e u cs w r p a life (record { state = Look looks; sections = []; work = None }) seen asked.Idle
        (records.Want set.space (demand_of r set.space - 1)) []
    lower-move less = record {
      records = refl;
      first = refl;
      no_up = refl;
      back = sym i.own.back;
      running = refl;
      ready = refl;
      untold = refl;
      elsewhere = λ z. refl;
      lives = λ b d at. refl;
      holds = λ later. subst (Holds set.space _ u) (sym (ap (put cs a.0) (sym i.on.mine) ∙ put-self cs a.0))
          (same-holds set.space r _ u cs (record { space = refl; untold = refl; running = refl; lives = refl }) i.holds);
      marks = λ ev last later b.
          let left =
          unsettled-inside set e u (put cs a.0 (Some c)) b.stands set.space last b.holds a (Look looks) [] None b.mine life b.there
          (ap is_gone b.stage) refl refl w r ev in
          record {
            inside = ap (λ z. is_inside w r ev last (not z) life) less ∙ left;
            back = and_right life.cont false refl;
            scans = ap (λ z. min (if z then life.scans else 0) MAX_PATIENCE) less ∙ i.own.scans;
            left = refl;
            lone = refl;
          };
    }

  -- THE HINT FOR MORE
  module _ (t : Option ThreadNo) (more : ℕ) (i : IsScene set e u cs w r p a life (record { state = Hint t; sections = []; work = None }) seen) where
    abbrev d : Context
    d = record { state = Hint t; sections = []; work = None }

    pub more-move : IsAsking set e u cs w r p a life (record { state = Hint t; sections = []; work = None }) seen (asked.More more)
        (records.Want set.space (demand_of r set.space + more)) []
    more-move =
        let processors = scene.processors set e u cs w r p a life d seen i in
        let not_lower : nat_lt (demand_of r set.space + more) (demand_of r set.space) ≡ false = not_less (demand_of r set.space) more in
        record {
          records = refl;
          first = refl;
          no_up = refl;
          back = sym i.own.back;
          running = refl;
          ready = refl;
          untold = refl;
          elsewhere = λ z. refl;
          lives = λ b d at. refl;
          holds = λ later.
              let between = settled_between t false (is_some (owed u later)) (has_bulk later) in
              restated set.space _ u cs (same-holds set.space r _ u cs (record { space = refl; untold = refl; running = refl; lives = refl }) i.holds) a
              (Hint t)
              (settled_to t false (is_some (owed u later)) (has_bulk later)) [] None i.on.mine refl refl between.section
              (settled-copy t false (is_some (owed u later)) (has_bulk later)) between.carries;
          marks = λ ev last later b.
              let between = settled_between t false (is_some (owed u later)) (has_bulk later) in
              settled-marked set e u (put cs a.0 (Some (answered u later d).1)) b.stands set.space last b.holds a t later [] None life b.there
              (ap is_gone b.stage) w r ev (records.Want set.space (demand_of r set.space + more))
              b.mine b.demand b.taken processors (b.carries ∙ between.carries) (ap not not_lower) (ap (λ z. if z then life.scans else 0) not_lower)
              (λ some. absurd cc);
        }
