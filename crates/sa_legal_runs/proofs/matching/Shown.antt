-- What is shown of an event, from which all laws hold at it.
use Rattle.std.proofs.Common.{inl, drop, get_or, ◌≡◌, ◌≢◌, ℕ, ◌+◌, ◌<◌, arith, sym, ◌∙◌, ap, subst, refl, Option, Some, None, is_some, List, [], ◌∷◌, ◌++◌, length}
use Rattle.sa_base.specs.declared.number.ProcNo.{ProcNo}
use Rattle.sa_base.specs.declared.number.SpaceNo.{SpaceNo}
use Rattle.sa_base.specs.declared.record.Record.{Record}
use Rattle.sa_spaces.specs.Workload.{WorkloadView}
use Rattle.sa_devices.specs.Ios.{Io, due_of}
use Rattle.sa_laws.specs.Turns.{IsTurnWhileDue, IsTickOrStep, IsTurn, IsClosing}
use Rattle.sa_laws.specs.Event.{Event}
use Rattle.sa_laws.specs.Readings.{Readings, running_of, line_of as line_in, owner_of as owner_in}
use Rattle.sa_laws.specs.Shape.{closing_part}
use Rattle.sa_laws.specs.Upcalls.{FirstLineIsAsked}
use Rattle.sa_laws.specs.Rules.{UserRules}
use Rattle.sa_kernel_laws.proofs.turns.Shapes.{drop-front}
use Rattle.sa_kernel_model.specs.State.{line_of}
use Rattle.sa_kernel_laws.specs.Overview.{Overview}
use Rattle.sa_core_model.specs.Machine.{Machine, scene_of}
use Rattle.sa_user_laws.specs.Steps.{IsClosed, event_with}
use Rattle.sa_user_laws.specs.Scene.{event_begun_at}
use Rattle.sa_user_laws.specs.Level.{UserLevel}
use Rattle.sa_legal_runs.proofs.matching.Composed.{strict-none, strict-over, read, IsTraced}
use Rattle.sa_legal_runs.proofs.matching.EventLaws.{event-lawful, own-steps}
use Rattle.sa_legal_runs.proofs.matching.Longer.{last-holds}
use Rattle.sa_kernel_model.specs.State.{Scene, owner_of, life_of}
use Rattle.sa_kernel_laws.specs.Histories.{IsHistory}
use Rattle.sa_laws.specs.Turns.{IsStrict, IsOver}
use Rattle.sa_laws.specs.Step.{AreSteps}
use Rattle.sa_laws.specs.Rules.{IsLawful}
use Rattle.sa_laws.proofs.Closings.{AreClosing}
use Rattle.sa_user_laws.specs.Steps.{RulesHold, RulesPass}

turn-step : (rules : UserRules) (w : WorkloadView) (r c : Readings) (p : ProcNo) (e : ℕ) (s : SpaceNo) (own : List Record)
    → line_in r p ≡ None → due_of e c.under_way ≡ None → owner_in c p ≡ Some s → rules.Steps w c p own
    → IsTurn rules.Steps (is_some (line_in r p)) e w c p own
turn-step rules w r c p e s own low due owner steps =
    subst (λ (l : Option ℕ). IsTurn rules.Steps (is_some l) e w c p own) (sym low)
    (subst (λ (o : Option Io). IsTurnWhileDue rules.Steps o w c p own) (sym due)
    (subst (λ (o : Option SpaceNo). IsTickOrStep rules.Steps o w c p own) (sym owner) steps))

no-append : (xs ys : List Record) → xs ++ ys ≡ [] → xs ≡ []
no-append [] ys none = refl
no-append (x ∷ xs) ys none = absurd (cc)

closing-is : (own cl : List Record) → IsClosed own cl → closing_part (own ++ cl) ≡ cl
closing-is own cl parts = ap (λ (xs : List Record). drop (length xs) (own ++ cl)) parts.is_own ∙ drop-front own cl

module _ {U C : Type 0} (level : UserLevel U C) where
  -- What is read of a processor, and of the I/Os under way, is what the kernel has.
  pub line-reads : (w : WorkloadView) (events : List Event) (m : Machine U C) (p : ProcNo)
      → IsHistory level.rules.inside w events (scene_of m) → line_in (read level w events) p ≡ line_of m.kernel p
  line-reads w events m p h = ap (λ (v : Overview). get_or v.assign.lines p.0 None) h.kept.reads

  pub owner-reads : (w : WorkloadView) (events : List Event) (m : Machine U C) (p : ProcNo)
      → IsHistory level.rules.inside w events (scene_of m) → owner_in (read level w events) p ≡ owner_of m.kernel p
  owner-reads w events m p h = ap (λ (v : Overview). get_or v.assign.owners p.0 None) h.kept.reads

  pub runs-reads : (w : WorkloadView) (events : List Event) (m : Machine U C) (p : ProcNo)
      → IsHistory level.rules.inside w events (scene_of m) → running_of (read level w events) p ≡ life_of m.kernel p
  runs-reads w events m p h = ap (λ (v : Overview). get_or v.running p.0 None) h.kept.reads

  pub due-reads : (w : WorkloadView) (events : List Event) (m : Machine U C) (e : ℕ) → IsHistory level.rules.inside w events (scene_of m)
      → due_of e (read level w events).under_way ≡ due_of e m.kernel.under_way
  due-reads w events m e h = ap (λ (v : Overview). due_of e v.under_way) h.kept.reads

  -- WHAT IS SHOWN of the next event, which consists of records of its own and a closing.
  pub record IsShown (w : WorkloadView) (events : List Event) (m : Machine U C) (p : ProcNo) (own cl : List Record) : Type 0 where
    pub within : p.0 < length m.kernel.lives
    pub some : own ≢ []
    pub parts : IsClosed own cl
    pub closes : AreClosing cl
    pub steps : AreSteps w (m.event + 1) p (event_begun_at w (m.event + 1) p (read level w events)) own
    pub first : FirstLineIsAsked level.rules.Lines w (read level w events) p (own ++ cl)
    pub turn : IsTurn level.rules.Steps (is_some (line_in (read level w events) p)) (m.event + 1) w
        (event_begun_at w (m.event + 1) p (read level w events)) p own
    pub rules : RulesPass level.rules w (read level w events) (event_with (m.event + 1) p own cl)

  -- So the event is lawful.
  pub lawful-by : (w : WorkloadView) (events : List Event) (m : Machine U C) (x : Scene C) (p : ProcNo) (own cl : List Record)
      → IsTraced level w events m
      → IsHistory level.rules.inside w (events ++ event_with (m.event + 1) p own cl ∷ []) x → IsShown w events m p own cl
      → IsLawful level.rules w (read level w events) (event_with (m.event + 1) p own cl)
  lawful-by w events m x p own cl c history shown =
      let g = m.event + 1 in
      let r = read level w events in
      let b = event_begun_at w g p r in
      event-lawful level.rules w r (event_with g p own cl) (last-holds level.rules.inside w events (event_with g p own cl) x history)
      (record {
        number = sym c.number;
        proc = (let inside = shown.within in omega (arith, inside, c.history.kept.of.processors));
        some = λ empty. shown.some (no-append own cl empty);
        opening = λ zero_is. absurd (omega (arith, zero_is));
      })
      (record { steps = own-steps w g p b own cl shown.steps shown.closes })
      shown.first
      (record {
        turn = λ later. subst (λ (xs : List Record). IsTurn level.rules.Steps (is_some (line_in r p)) g w b p xs)
            (sym shown.parts.is_own) shown.turn;
        closing = λ later. subst (λ (xs : List Record). IsClosing xs) (sym (closing-is own cl shown.parts)) shown.parts.closes;
      })
      shown.rules

  -- The rules that hold at a user level's own event are among those of any event.
  pub rules-pass : (w : WorkloadView) (r : Readings) (ev : Event) (own : List Record) → RulesHold level.rules w r ev own
      → RulesPass level.rules w r ev
  rules-pass w r ev own rules = record { demand = rules.demand; locks = rules.locks; order = rules.order }

  -- A step is the turn of a processor whose line is low, where no I/O is due; and its event is strict.
  pub step-turns : (w : WorkloadView) (events : List Event) (m : Machine U C) (p : ProcNo) (s : SpaceNo) (own : List Record)
      → IsHistory level.rules.inside w events (scene_of m)
      → line_of m.kernel p ≡ None → due_of (m.event + 1) m.kernel.under_way ≡ None → owner_of m.kernel p ≡ Some s
      → level.rules.Steps w (event_begun_at w (m.event + 1) p (read level w events)) p own
      → IsTurn level.rules.Steps (is_some (line_in (read level w events) p)) (m.event + 1) w
      (event_begun_at w (m.event + 1) p (read level w events)) p own
  step-turns w events m p s own h low due owner steps =
      turn-step level.rules w (read level w events) (event_begun_at w (m.event + 1) p (read level w events)) p (m.event + 1) s own
      (line-reads w events m p h ∙ low)
      (due-reads w events m (m.event + 1) h ∙ due) (owner-reads w events m p h ∙ owner) steps

  pub strict-due : (w : WorkloadView) (events : List Event) (m : Machine U C) (p : ProcNo) (own cl : List Record)
      → IsHistory level.rules.inside w events (scene_of m)
      → due_of (m.event + 1) m.kernel.under_way ≡ None → IsStrict (read level w events) (event_with (m.event + 1) p own cl)
  strict-due w events m p own cl h due =
      strict-none w (read level w events) (event_with (m.event + 1) p own cl) (due-reads w events m (m.event + 1) h ∙ due)

  -- The completion of the I/O that is due is the turn where the line is low; and its event is strict.
  pub over-turns : (w : WorkloadView) (events : List Event) (m : Machine U C) (p : ProcNo) (io : Io) (own : List Record)
      → IsHistory level.rules.inside w events (scene_of m)
      → line_of m.kernel p ≡ None → due_of (m.event + 1) m.kernel.under_way ≡ Some io → IsOver io.kind own
      → IsTurn level.rules.Steps (is_some (line_in (read level w events) p)) (m.event + 1) w
      (event_begun_at w (m.event + 1) p (read level w events)) p own
  over-turns w events m p io own h low due over =
      let g = m.event + 1 in
      let b = event_begun_at w g p (read level w events) in
      subst (λ (l : Option ℕ). IsTurn level.rules.Steps (is_some l) g w b p own) (sym (line-reads w events m p h ∙ low))
      (subst (λ (o : Option Io). IsTurnWhileDue level.rules.Steps o w b p own) (sym (due-reads w events m g h ∙ due)) (inl over))

  pub strict-over_due : (w : WorkloadView) (events : List Event) (m : Machine U C) (p : ProcNo) (io : Io) (own cl : List Record)
      → IsHistory level.rules.inside w events (scene_of m)
      → due_of (m.event + 1) m.kernel.under_way ≡ Some io → IsOver io.kind own → IsClosed own cl
      → IsStrict (read level w events) (event_with (m.event + 1) p own cl)
  strict-over_due w events m p io own cl h due over parts =
      strict-over w (read level w events) (event_with (m.event + 1) p own cl) io own
      (due-reads w events m (m.event + 1) h ∙ due) over parts.is_own
