-- The moves that end with a block: what is known after one, and those that say nothing before it, a fault in the code and the
-- touch of an absent page.
use Rattle.std.proofs.Common.{◌≡◌, ℕ, Bool, true, false, ◌||◌, [], Option, Some, slice_index_or, refl, sym, ap, ◌∙◌, subst}
use Rattle.std.specs.Prelude.{length, ◌<◌, not, ◌&&◌, if◌then◌else◌, ◌≢◌}
use Rattle.std.specs.List.{list_any}
use Rattle.std.specs.Option.{option_map}
use Rattle.std.proofs.lemmas.Bool.{and_right}
use Rattle.sa_base.specs.declared.context.Seen.{Seen}
use Rattle.sa_base.specs.declared.limits.TheConstants.{PACKAGE_PAGE}
use Rattle.sa_base.specs.declared.number.ActNo.{ActNo}
use Rattle.sa_base.specs.declared.number.IoNo.{IoNo}
use Rattle.sa_base.specs.declared.number.ProcNo.{ProcNo}
use Rattle.sa_base.specs.declared.record.Record.{Record}
use Rattle.sa_base.specs.declared.record.Record.TheVariants as records
use Rattle.sa_lemmas.proofs.FunctionUpdates.{put-self, put-same}
use Rattle.sa_lemmas.specs.Function.{put}
use Rattle.sa_spaces.specs.Workload.{WorkloadView}
use Rattle.sa_devices.specs.declared.kind.IoKind.TheVariants.{Page}
use Rattle.sa_fast.specs.declared.threads.KeptPlace.TheVariants as kept
use Rattle.sa_abstract.specs.Calls.{Contexts, Stepped}
use Rattle.sa_abstract.specs.Setting.{Setting}
use Rattle.sa_abstract.specs.declared.answer.Step.TheVariants as asked
use Rattle.sa_package_model.specs.Context.{carried_by, stands_inside}
use Rattle.sa_package_model.specs.Rules.{placed_in}
use Rattle.sa_package_model.specs.Stands.{IsStanding}
use Rattle.sa_package_model.specs.Step.{stepped}
use Rattle.sa_package_model.specs.declared.context.Context.{Context}
use Rattle.sa_package_model.specs.declared.package.Package.{Package}
use Rattle.sa_laws.specs.Event.{Event}
use Rattle.sa_laws.specs.History.{is_inside, stepped as ends}
use Rattle.sa_laws.specs.Life.{Life, some_lock, held_with}
use Rattle.sa_laws.specs.Readings.{Readings, life_of, has_hand, counts, is_resident}
use Rattle.sa_laws.specs.Record.{after_record, blocking, locks_one, page_touched}
use Rattle.sa_laws.specs.State.{no_threads}
use Rattle.sa_laws.specs.Step.{HasCause, Needs}
use Rattle.sa_user_laws.specs.Scene.{event_begun_at}
use Rattle.sa_fast_laws.proofs.relation.EventEnds.{begun-holds}
use Rattle.sa_fast_laws.specs.FastFits.{Holds}
use Rattle.sa_fast_laws.specs.Life.{IsMarked}
use Rattle.sa_fast_laws.specs.Stage.{stage_of, is_gone, InBlock}
use Rattle.sa_fast_laws.specs.View.{is_idle, view, at_yield, looks_of}
use Rattle.sa_fast_laws.proofs.notices.Blocks.{block-holds, block-stays}
use Rattle.sa_fast_laws.proofs.notices.Blocks as blocks
use Rattle.sa_fast_laws.proofs.steps.Scenes.{IsScene}
use Rattle.sa_fast_laws.proofs.steps.Scenes as scene

-- WHAT IS KNOWN AFTER A BLOCK of life a, whose context c stays as it is, at this moment; its event began with x.
pub record IsBlocked (set : Setting) (cs : Contexts Context) (w : WorkloadView) (r : Readings) (a : ActNo) (life : Life) (c : Context) (v : Package)
    (here : Readings) (x : Record) : Type 0 where
  pub holds : Holds set.space here v cs
  pub lives : here.lives ≡ put r.lives a.0 (Some (held_with (carried_by c.state) life))
  pub stage : stage_of here set.space a (held_with (carried_by c.state) life) ≡ InBlock
  pub others : (y : ActNo) (l : Life) → y.0 ≢ a.0 → stage_of here set.space y l ≡ stage_of r set.space y l
  pub busy : is_idle (view c) ≡ false
  pub marks : (ev : Event) (last : Readings) → last.state.spaces ≡ here.state.spaces
      → IsMarked (view c) (ends is_inside w r ev last x (held_with (carried_by c.state) life))

-- whether a life is in that does not settle hangs on the threads of its space alone
pub inside-at : (w : WorkloadView) (r : Readings) (ev : Event) (here last : Readings) (life : Life) → last.state.spaces ≡ here.state.spaces
    → is_inside w r ev last false life ≡ (some_lock life.locks || life.cont || has_hand here life)
inside-at w r ev here last life spaces =
    or_false (some_lock life.locks || life.cont || has_hand last life)
    ∙ ap (λ y. some_lock life.locks || life.cont || y)
    (ap (λ ys. list_any (counts (slice_index_or ys life.space.0 no_threads)) life.hand) spaces) where
      or_false : (b : Bool) → (b || false || false) ≡ b
      or_false true = refl
      or_false false = refl

module _ (set : Setting) (e : ℕ) (u : Package) (cs : Contexts Context) (w : WorkloadView) (r : Readings) (p : ProcNo) (a : ActNo) (life : Life)
    (c : Context) (seen : Seen)
    (i : IsScene set e u cs w r p a life c seen) where
  abbrev r0 : Readings
  r0 = event_begun_at w seen.event p r

  abbrev n : ℕ
  n = seen.event

  abbrev v : Package
  v = placed_in u (carried_by c.state) kept.Blocked

  k0 : Holds set.space (event_begun_at w seen.event p r) u cs
  k0 = begun-holds set.space r u cs w (record { number = seen.event; proc = p; records = [] }) i.holds

  -- A FAULT: the step asks for a block for this page, and says nothing before it
  pub record IsFault (page : ℕ) : Type 0 where
    pub step : stepped u seen c ≡ record { user = placed_in u (carried_by c.state) kept.Blocked; ctx = c; says = []; answer = asked.Block u.fetch (Some page) }
    pub for : (if locks_one (life_of r a) && not (is_resident (event_begun_at w seen.event p r) set.space PACKAGE_PAGE) then PACKAGE_PAGE
        else page_touched w r set.space (carried_by c.state))
        ≡ page
    pub cause : HasCause w (event_begun_at w seen.event p r) set.space (carried_by c.state) a
    pub yields : at_yield c.state ≡ false
    pub looks : looks_of c.state ≡ 0
    pub busy : is_idle (view c) ≡ false
    pub inside : (here : Readings) → Holds set.space here v cs → life_of here a ≡ Some (held_with (carried_by c.state) life)
        → is_gone (stage_of here set.space a (held_with (carried_by c.state) life)) ≡ false
        → IsStanding set seen.event v cs
        → (some_lock life.locks || life.cont || has_hand here (held_with (carried_by c.state) life)) ≡ stands_inside c.state

  module _ {page : ℕ} (z : IsFault page) where
    known : set.space.0 < length r.state.spaces
    known = scene.known set e u cs w r p a life c seen i

    heard : set.space.0 < length r.untold
    heard = scene.heard set e u cs w r p a life c seen i

    procs : p.0 < length r.running
    procs = scene.procs set e u cs w r p a life c seen i

    put_c : put cs a.0 (Some c) ≡ cs
    put_c = ap (put cs a.0) (sym i.on.mine) ∙ put-self cs a.0

    stands_now : IsStanding set seen.event v cs
    stands_now =
        subst (IsStanding set seen.event v) put_c
        (subst (λ (y : Stepped Package Context). IsStanding set seen.event y.user (put cs a.0 (Some y.ctx))) z.step
        (scene.steps set e u cs w r p a life c seen i).value)

    -- what is blocked, and that its record is a step of the abstract machine
    pub fault-for : blocking w (event_begun_at w seen.event p r) set.space (carried_by c.state) a ≡ record { kind = Page set.space a page; length = u.fetch }
    fault-for = ap (λ k. record { kind = Page set.space a k; length = w.fetch }) z.for
        ∙ ap (λ m. record { kind = Page set.space a page; length = m }) (sym (i.stands.made.fetch ∙ i.of.fetch))

    pub fault-needs : (io : IoNo) → Needs w p (event_begun_at w seen.event p r) (records.Block set.space (carried_by c.state) a io)
    fault-needs io = record { owned = i.on.owner; runs = scene.runner set e u cs w r p a life c seen i; cause = z.cause }

    pub fault-blocked : (io : IoNo)
        → IsBlocked set cs w r a life c v (after_record w n p r0 (records.Block set.space (carried_by c.state) a io))
        (records.Block set.space (carried_by c.state) a io)
    fault-blocked io =
        let x = records.Block set.space (carried_by c.state) a io in
        let here = after_record w n p r0 x in
        let holds = block-holds set e u cs i.stands set.space r0 k0 a c i.on.mine w n p life i.on.runs i.on.is i.on.space known heard procs io in
        let now : Life = held_with (carried_by c.state) life in
        let lives_are : here.lives ≡ put r.lives a.0 (Some now) =
        ap (λ o. put r.lives a.0 (option_map (held_with (carried_by c.state)) o)) i.on.is in
        let there : life_of here a ≡ Some now = ap (λ (f : ℕ → Option Life). f a.0) lives_are ∙ put-same r.lives a.0 (Some now) in
        let stays_so : is_gone (stage_of here set.space a now) ≡ false =
        block-stays set e u cs i.stands set.space r0 k0 a c i.on.mine w n p life i.on.runs i.on.is i.on.space known heard procs io in
        record {
          holds = holds;
          lives = lives_are;
          stage = blocks.stage_a set e u cs i.stands set.space r0 k0 a c i.on.mine w n p life i.on.runs i.on.is i.on.space known heard procs io;
          others =
              λ y l ne. blocks.stage_x set e u cs i.stands set.space r0 k0 a c i.on.mine w n p life
              i.on.runs i.on.is i.on.space known heard procs io y l.proc ne;
          busy = z.busy;
          marks = λ ev last spaces. record {
            inside = inside-at w r ev here last now spaces ∙ z.inside here holds there stays_so stands_now;
            back = and_right life.cont false refl ∙ sym z.yields;
            scans = sym z.looks;
            left = i.own.left;
            lone = i.own.lone;
          };
        }
