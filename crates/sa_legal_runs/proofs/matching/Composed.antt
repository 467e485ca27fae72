-- What is kept from move to move, and that a run is a legal history.
use Rattle.sa_kernel_laws.proofs.histories.Histories.{after_events-push, last_of-push}
use Rattle.std.proofs.Common.{get_or, true, None, Option, is_some, false, ◌≡◌, ℕ, ◌+◌, arith, sym, ◌∙◌, ap, subst, Some, List, [], ◌∷◌, ◌++◌, length, slice_get}
use Rattle.std.proofs.lemmas.Option.{same_Some, none-some}
use Rattle.sa_base.specs.declared.record.Record.{Record}
use Rattle.sa_base.specs.declared.number.SpaceNo.{SpaceNo}
use Rattle.sa_spaces.specs.Workload.{WorkloadView}
use Rattle.sa_devices.specs.Ios.{Io, due_of}
use Rattle.sa_laws.specs.Turns.{IsStrict, IsOver}
use Rattle.sa_laws.specs.Shape.{own_part}
use Rattle.sa_laws.specs.Readings.{line_of, Readings, opening_readings, running_of}
use Rattle.sa_laws.specs.Closing.{must_want}
use Rattle.sa_laws.specs.Event.{Event}
use Rattle.sa_laws.specs.History.{after_event, event_begun}
use Rattle.sa_laws.specs.Opening.{opening_event}
use Rattle.sa_laws.specs.Rules.{IsLawful}
use Rattle.sa_laws.proofs.Records.{number-kept}
use Rattle.sa_histories.specs.Lawful.{AreLawful}
use Rattle.sa_histories.proofs.Appended.{lawful-append}
use Rattle.sa_kernel_laws.specs.Histories.{IsHistory, read_from, last_number}
use Rattle.sa_core_model.specs.Machine.{Machine, scene_of}
use Rattle.sa_core_model.specs.Run.{setting}
use Rattle.sa_core_model.specs.Standing.{contexts_of, IsBetween}
use Rattle.sa_user_laws.specs.Moments.{IsMoment}
use Rattle.sa_user_laws.specs.Scene.{Holds}
use Rattle.sa_user_laws.specs.Level.{UserLevel}
use Rattle.sa_legal_runs.proofs.frames.IoNumbers.{IsNumberedWell, rising-event}
use Rattle.sa_legal_runs.proofs.matching.Longer.{last-holds}
use Rattle.sa_legal_runs.proofs.frames.Lives.{AreMatched}
use Rattle.sa_legal_runs.proofs.matching.Spaces.{AreFit, of-space, value-of, holds-of}
use Rattle.sa_legal_runs.proofs.frames.Sizes.{sized-event}
use Rattle.sa_legal_runs.proofs.frames.Idle.{IdleAreOut, StopsFirst, idle-event}
use Rattle.sa_histories.proofs.Sizes.{IsSized}
use Rattle.sa_kernel_laws.specs.Overview.{Overview}
use Rattle.sa_spaces.specs.Space.{SpaceView}
use Rattle.sa_base.specs.declared.number.ProcNo.{ProcNo}
use Rattle.sa_base.specs.declared.number.ActNo.{ActNo}
use Rattle.sa_lemmas.proofs.ListReads.{read-at}
use Rattle.sa_legal_runs.proofs.matching.Overviews.{moment-of}

-- An event is strict where no I/O is due, where the line was raised, and where it completes the I/O that is due.
pub strict-none : (w : WorkloadView) (r : Readings) (ev : Event) → due_of ev.number r.under_way ≡ None → IsStrict r ev
strict-none w r ev none = record { strict = λ io later due low. absurd (none-some io (sym none ∙ due)) }

pub strict-raised : (w : WorkloadView) (r : Readings) (ev : Event) → is_some (line_of r ev.proc) ≡ true → IsStrict r ev
strict-raised w r ev raised =
    record { strict = λ io later due low. absurd (let z : true ≡ false = sym raised ∙ ap (λ (o : Option ℕ). is_some o) low in cc) }

pub strict-over : (w : WorkloadView) (r : Readings) (ev : Event) (due_io : Io) (own : List Record)
    → due_of ev.number r.under_way ≡ Some due_io → IsOver due_io.kind own → own_part ev.records ≡ own → IsStrict r ev
strict-over w r ev due_io own is over part = record {
  strict = λ io later due low. subst (λ (xs : List Record). IsOver io.kind xs) (sym part)
      (subst (λ (q : Io). IsOver q.kind own) (same_Some due_io io (sym is ∙ due)) over);
}

module _ {U C : Type 0} (level : UserLevel U C) where
  -- the kernel and the items of a machine
  -- what is read after the opening and these events
  abbrev pub read : WorkloadView → List Event → Readings
  read w events = read_from level.rules.inside w events

  -- THE RELATION that is kept: the machine is that of the opening and these events, which are lawful
  pub record IsComposed (w : WorkloadView) (events : List Event) (m : Machine U C) : Type 0 where
    pub between : IsBetween level.stands m
    pub workload : m.workload ≡ w
    pub history : IsHistory level.rules.inside w events (scene_of m)
    pub lawful : AreLawful level.rules w (opening_readings w) (opening_event w ∷ events)
    pub number : (read w events).number ≡ m.event + 1
    pub last : last_number w events ≡ m.event
    pub sized : IsSized w (read w events)
    pub calm : (s : SpaceNo) → must_want (read w events) s ≡ false
    pub ios : IsNumberedWell (read w events)
    pub idle : IdleAreOut (read w events)
    pub matched : AreMatched m.kernel.acts (read w events).lives
    pub fit : AreFit level.fits w (read w events) m.users (contexts_of m)

  -- What of this does not speak of the user level holds also among instructions that are committed at once.
  pub record IsTraced (w : WorkloadView) (events : List Event) (m : Machine U C) : Type 0 where
    pub fetched : m.kernel.telling ≡ []
    pub workload : m.workload ≡ w
    pub history : IsHistory level.rules.inside w events (scene_of m)
    pub lawful : AreLawful level.rules w (opening_readings w) (opening_event w ∷ events)
    pub number : (read w events).number ≡ m.event + 1
    pub last : last_number w events ≡ m.event
    pub sized : IsSized w (read w events)
    pub calm : (s : SpaceNo) → must_want (read w events) s ≡ false
    pub ios : IsNumberedWell (read w events)
    pub idle : IdleAreOut (read w events)
    pub matched : AreMatched m.kernel.acts (read w events).lives

  pub traced-of : (w : WorkloadView) (events : List Event) (m : Machine U C) → IsComposed w events m → IsTraced w events m
  traced-of w events m c =
      record {
        fetched = c.between.fetched;
        workload = c.workload;
        history = c.history;
        lawful = c.lawful;
        number = c.number;
        last = c.last;
        sized = c.sized;
        calm = c.calm;
        ios = c.ios;
        idle = c.idle;
        matched = c.matched;
      }

  -- The machine goes on by one event of processor p.
  pub record Goes (w : WorkloadView) (events : List Event) (m : Machine U C) (p : ProcNo) (after : Machine U C) (ev : Event) : Type 0 where
    pub between : IsBetween level.stands after
    pub workload : after.workload ≡ w
    pub event : after.event ≡ m.event + 1
    pub number : ev.number ≡ m.event + 1
    pub proc : ev.proc ≡ p
    pub history : IsHistory level.rules.inside w (events ++ ev ∷ []) (scene_of after)
    pub lawful : IsLawful level.rules w (read w events) ev
    pub stops : StopsFirst ev.records
    pub strict : IsStrict (read w events) ev
    pub matched : AreMatched after.kernel.acts (after_event level.rules.inside w (read w events) ev).lives
    pub fit : AreFit level.fits w (after_event level.rules.inside w (read w events) ev) after.users (contexts_of after)

  pub read-push : (w : WorkloadView) (events : List Event) (ev : Event)
      → read w (events ++ ev ∷ []) ≡ after_event level.rules.inside w (read w events) ev
  read-push w events ev = after_events-push level.rules.inside w (opening_readings w) (opening_event w ∷ events) ev

  -- No life runs on two processors.
  runs-apart : (w : WorkloadView) (events : List Event) (m : Machine U C) → IsTraced w events m → (p q : ProcNo) (a : ActNo)
      → running_of (read w events) p ≡ Some a → running_of (read w events) q ≡ Some a → p ≡ q
  runs-apart w events m c p q a one other =
      let run : (i : ProcNo) → get_or m.kernel.lives i.0 None ≡ running_of (read w events) i =
      λ i. sym (ap (λ (v : Overview). get_or v.running i.0 None) c.history.kept.reads) in
      ap (λ (i : ℕ). record { 0 = i }) (c.history.kept.sound.formed.lives.apart p.0 q.0 a (run p ∙ one) (run q ∙ other))

  pub traced-goes : (w : WorkloadView) (events : List Event) (m after : Machine U C) (ev : Event) → IsTraced w events m
      → after.kernel.telling ≡ [] → after.workload ≡ w → after.event ≡ m.event + 1 → ev.number ≡ m.event + 1
      → IsHistory level.rules.inside w (events ++ ev ∷ []) (scene_of after) → IsLawful level.rules w (read w events) ev
      → StopsFirst ev.records → AreMatched after.kernel.acts (after_event level.rules.inside w (read w events) ev).lives
      → IsTraced w (events ++ ev ∷ []) after
  traced-goes w events m after ev c fetched workload event numbered history lawful stops matched =
      let is = read-push w events ev in
      let holds = last-holds level.rules.inside w events ev (scene_of after) history in
      record {
        fetched = fetched;
        workload = workload;
        history = history;
        lawful = lawful-append level.rules w (opening_readings w) (opening_event w ∷ events) (ev ∷ []) c.lawful (lawful, tt);
        number = ap (λ (r : Readings). r.number) is
            ∙ ap (λ (n : ℕ). n + 1) (number-kept w ev.number ev.proc (event_begun w ev (read w events)) ev.records ∙ c.number ∙ sym event);
        last = ap (λ (e : Event). e.number) (last_of-push (opening_event w) events ev) ∙ numbered ∙ sym event;
        sized = subst (λ (r : Readings). IsSized w r) (sym is) (sized-event level.rules.inside w (read w events) ev c.sized);
        calm = subst (λ (r : Readings). (s : SpaceNo) → must_want r s ≡ false) (sym is) holds.want_cause.none;
        ios = subst (λ (r : Readings). IsNumberedWell r) (sym is) (rising-event level.rules.inside w (read w events) ev c.ios);
        idle = subst (λ (r : Readings). IdleAreOut r) (sym is)
            (idle-event level.rules.inside w (read w events) ev holds.where_owned (runs-apart w events m c) stops c.idle);
        matched = subst (λ (r : Readings). AreMatched after.kernel.acts r.lives) (sym is) matched;
      }

  pub composed-of : (w : WorkloadView) (events : List Event) (m : Machine U C) → IsTraced w events m → IsBetween level.stands m
      → AreFit level.fits w (read w events) m.users (contexts_of m) → IsComposed w events m
  composed-of w events m c between fit = record {
    between = between;
    workload = c.workload;
    history = c.history;
    lawful = c.lawful;
    number = c.number;
    last = c.last;
    sized = c.sized;
    calm = c.calm;
    ios = c.ios;
    idle = c.idle;
    matched = c.matched;
    fit = fit;
  }

  pub composed-goes : (w : WorkloadView) (events : List Event) (m : Machine U C) (p : ProcNo) (after : Machine U C) (ev : Event)
      → IsComposed w events m → Goes w events m p after ev → IsComposed w (events ++ ev ∷ []) after
  composed-goes w events m p after ev c g =
      let is = read-push w events ev in
      let t = traced-goes w events m after ev
      (traced-of w events m c) g.between.fetched g.workload g.event g.number g.history g.lawful g.stops g.matched in
      composed-of w (events ++ ev ∷ []) after t g.between
      (subst (λ (r : Readings). AreFit level.fits w r after.users (contexts_of after)) (sym is) g.fit)

  -- Who runs where, between two events.
  pub moment : (w : WorkloadView) (events : List Event) (m : Machine U C) → IsComposed w events m → IsMoment (read w events)
  moment w events m c =
      moment-of w m.kernel (read w events) c.history.kept.sound c.history.kept.reads c.history.kept.of.spaces c.sized.spaces
      (λ s below.
      let u = read-at m.users s (omega (arith, below, c.between.standing.users, ap (λ (v : WorkloadView). length v.spaces) c.workload)) in
      let d = read-at w.spaces s below in
      level.laws.threads w (setting w s d.0) m.event (read w events) u.0 (contexts_of m s) (of-space w s d.0 c.history.ok d.1)
      (value-of level w m.event m s u.0 d.0 c.workload c.between.standing u.1 d.1) (c.fit s u.0 d.0 u.1 d.1))

  -- What holds of a space then.
  pub holds-at : (w : WorkloadView) (events : List Event) (m : Machine U C) (s : ℕ) (u : U) (def : SpaceView)
      → IsComposed w events m → slice_get m.users s ≡ Some u → slice_get w.spaces s ≡ Some def
      → Holds level.stands w (setting w s def) m.event (read w events) u (contexts_of m s)
  holds-at w events m s u def c at of =
      holds-of level w m.event m
      (read w events) s u def c.history.ok c.workload c.between.standing c.between.fetched c.history.kept.reads c.sized
      (moment w events m c) at of
