-- Events that are no steps and have no up, among them a tick.
use Rattle.std.proofs.Common.{is_some, ◌≡◌, ◌≢◌, ℕ, ◌+◌, ◌<◌, sym, ◌∙◌, ap, subst, refl, Bool, true, false, Option, None, List, [], ◌∷◌, ◌++◌, length, inl, inr, ◌||◌}
use Rattle.std.specs.List.{list_any}
use Rattle.std.proofs.lemmas.List.Folds.{list_any-append}
use Rattle.sa_base.specs.declared.record.Record.TheVariants.{Line, Tick}
use Rattle.sa_base.specs.declared.number.ProcNo.{ProcNo}
use Rattle.sa_base.specs.declared.number.SpaceNo.{SpaceNo}
use Rattle.sa_base.specs.declared.number.ActNo.{ActNo}
use Rattle.sa_base.specs.declared.record.Record.{Record}
use Rattle.sa_spaces.specs.Workload.{WorkloadView}
use Rattle.sa_acts.specs.declared.acts.Act.{Act}
use Rattle.sa_assign.specs.Aims.{space_no}
use Rattle.sa_devices.specs.Ios.{Io, due_of}
use Rattle.sa_laws.specs.Turns.{IsStrict, IsTurn, IsTurnWhileDue, IsTickOrStep}
use Rattle.sa_laws.specs.Upcalls.{FirstLineIsAsked}
use Rattle.sa_laws.specs.Life.{Life}
use Rattle.sa_laws.specs.Readings.{Readings, owner_of as owner_in, line_of as line_in}
use Rattle.sa_laws.specs.Rules.{UserRules}
use Rattle.sa_laws.specs.History.{after_records, after_event, is_up}
use Rattle.sa_laws.specs.Event.{Event}
use Rattle.sa_laws.specs.Step.{AreSteps}
use Rattle.sa_laws.proofs.Records.{records-append}
use Rattle.sa_laws.proofs.Closings.{AreClosing}
use Rattle.sa_kernel_model.specs.State.{owner_of, line_of}
use Rattle.sa_kernel_laws.proofs.entries.Walks.{not-empty}
use Rattle.sa_kernel_laws.specs.Histories.{IsHistory}
use Rattle.sa_core_model.specs.Machine.{Machine, scene_of}
use Rattle.sa_core_model.specs.Standing.{contexts_of, contexts_in, IsBetween}
use Rattle.sa_core_model.specs.Turn.{next_event, sliced, ticked}
use Rattle.sa_user_laws.specs.Moments.{AlikeButDemands}
use Rattle.sa_user_laws.specs.Scene.{event_begun_at}
use Rattle.sa_user_laws.specs.Steps.{begins_step, IsClosed, event_with, AreKernels}
use Rattle.sa_user_laws.specs.Level.{UserLevel}
use Rattle.sa_legal_runs.proofs.matching.Composed.{traced-of, IsComposed, Goes, read, moment}
use Rattle.sa_legal_runs.proofs.frames.Moments.{put-again, StaysPut, same-for, alike-stays, closing-alike, plain-stays}
use Rattle.sa_legal_runs.proofs.matching.Spaces.{fit-same, fit-contexts, AreFit}
use Rattle.sa_legal_runs.proofs.frames.Lives.{AreMatched}
use Rattle.sa_legal_runs.proofs.matching.EventBegins.{fit-begun}
use Rattle.sa_legal_runs.proofs.matching.EventLaws.{closing-no_up, ended-stays}
use Rattle.sa_legal_runs.proofs.matching.Slices.{sliced-goes}
use Rattle.sa_legal_runs.proofs.frames.Idle.{StopsFirst, stops-first_both}
use Rattle.sa_legal_runs.proofs.matching.Shown.{line-reads, due-reads, owner-reads, lawful-by, strict-due}

-- whether the first record of these is a line
abbrev pub begins_line : List Record → Bool
begins_line (Line q ∷ xs) = true
begins_line _ = false

no-line : (rules : UserRules) (w : WorkloadView) (r : Readings) (p : ProcNo) (xs ys : List Record) → xs ≢ []
    → begins_line xs ≡ false → FirstLineIsAsked rules.Lines w r p (xs ++ ys)
no-line rules w r p [] ys some none = absurd (some refl)
no-line rules w r p (Line q ∷ xs) ys some none = absurd (cc)
no-line rules w r p (x ∷ xs) ys some none = tt

no-step_both : (xs ys : List Record) → xs ≢ [] → begins_step xs ≡ false → begins_step (xs ++ ys) ≡ false
no-step_both [] ys some none = absurd (some refl)
no-step_both (x ∷ xs) ys some none = none

no-up_both : (xs cl : List Record) → list_any is_up xs ≡ false → AreClosing cl → list_any is_up (xs ++ cl) ≡ false
no-up_both xs cl none closes = list_any-append is_up xs cl ∙ ap (λ (b : Bool). b || list_any is_up cl) none ∙ closing-no_up cl closes

module _ {U C : Type 0} (level : UserLevel U C) where
  -- AN EVENT THAT IS NO STEP, and has no up, is lawful.
  pub kernel-goes : (w : WorkloadView) (events : List Event) (m after : Machine U C) (p : ProcNo) (own cl : List Record)
      → (c : IsComposed level w events m)
      → let g = m.event + 1 in
      let r = read level w events in
      let b = event_begun_at w g p r in
      let first = after_records w g p b own in
      p.0 < length m.kernel.lives → own ≢ [] → begins_step own ≡ false → begins_line own ≡ false → list_any is_up own ≡ false
      → StopsFirst own
      → IsClosed own cl → AreClosing cl → IsHistory level.rules.inside w (events ++ event_with g p own cl ∷ []) (scene_of after)
      → AreSteps w g p b own → AreKernels own → IsTurn level.rules.Steps (is_some (line_in r p)) g w b p own
      → IsStrict r (event_with g p own cl)
      → AreMatched after.kernel.acts first.lives → AreFit level.fits w first after.users (contexts_of after)
      → IsBetween level.stands after → after.workload ≡ w → after.event ≡ g
      → Goes level w events m p after (event_with g p own cl)
  kernel-goes w events m after p own cl c within some step line up stops parts closes history steps are turn strict matched fit between workload event =
      let g = m.event + 1 in
      let r = read level w events in
      let b = event_begun_at w g p r in
      let first = after_records w g p b own in
      let ev : Event = event_with g p own cl in
      let last = after_records w g p b (own ++ cl) in
      let final = after_event level.rules.inside w r ev in
      let alike : AlikeButDemands first last =
      subst (λ (v : Readings). AlikeButDemands first v) (sym (records-append w g p b own cl)) (closing-alike w g p first cl closes) in
      let put : StaysPut first final = put-again first last final (alike-stays first last alike)
      (ended-stays level.rules.inside w r ev last (no-step_both own cl some step) (no-up_both own cl up closes)) in
      record {
        between = between;
        workload = workload;
        event = event;
        number = refl;
        proc = refl;
        history = history;
        strict = strict;
        stops = stops-first_both own cl stops closes;
        lawful = lawful-by level w events m _ p own cl (traced-of level w events m c) history (record {
          within = within;
          some = some;
          parts = parts;
          closes = closes;
          steps = steps;
          first = no-line level.rules w r p own cl some line;
          turn = turn;
          rules = level.laws.kernels w r g p own cl c.history.ok (moment level w events m c) are parts;
        });
        matched = subst (λ (ls : ℕ → Option Life). AreMatched after.kernel.acts ls) (sym put.lives) matched;
        fit = fit-same level w first final after.users (contexts_of after) c.history.ok (λ t. same-for first final put (space_no t)) fit;
      }

  -- A tick is the turn of a processor that nobody owns, where the line is low and no I/O is due.
  low-turn : (w : WorkloadView) (r b : Readings) (p : ProcNo) (e : ℕ) (own : List Record) → line_in r p ≡ None
      → due_of e b.under_way ≡ None → owner_in b p ≡ None → own ≡ Tick ∷ []
      → IsTurn level.rules.Steps (is_some (line_in r p)) e w b p own
  low-turn w r b p e own low due owner is =
      subst (λ (l : Option ℕ). IsTurn level.rules.Steps (is_some l) e w b p own) (sym low)
      (subst (λ (o : Option Io). IsTurnWhileDue level.rules.Steps o w b p own) (sym due)
      (subst (λ (o : Option SpaceNo). IsTickOrStep level.rules.Steps o w b p own) (sym owner) is))

  -- A TICK.
  pub tick-goes : (w : WorkloadView) (events : List Event) (m : Machine U C) (p : ProcNo) → (c : IsComposed level w events m)
      → line_of m.kernel p ≡ None → due_of (m.event + 1) m.kernel.under_way ≡ None → owner_of m.kernel p ≡ None
      → p.0 < length m.kernel.lives
      → let after = sliced p (ticked p (next_event m)) in
      IsBetween level.stands after
      → (ev : Event) × Goes level w events m p after ev
  tick-goes w events m p c low due off within between =
      let g = m.event + 1 in
      let r = read level w events in
      let b0 = event_begun_at w g p r in
      let own = Tick ∷ [] in
      let slice = sliced-goes level w events m p own m.users m.contexts (traced-of level w events m c) low within
      (not-empty Tick []) refl in
      let after : Machine U C = sliced p (ticked p (next_event m)) in
      let first = after_records w g p b0 own in
      let put : StaysPut b0 first = plain-stays w g p b0 Tick refl in (
        event_with g p own slice.closing,
        kernel-goes w events m after p own slice.closing c within
            (not-empty Tick []) refl refl refl refl slice.parts slice.closes slice.history
            (tt, tt) (inr (inr refl))
            (low-turn w r b0 p g own (line-reads level w events m p c.history ∙ low)
            (due-reads level w events m g c.history ∙ due) (owner-reads level w events m p c.history ∙ off) refl)
            (strict-due level w events m p own slice.closing c.history due)
            (subst (λ (fs : ℕ → Option (Act C)). AreMatched fs first.lives) (sym slice.same.acts) c.matched)
            (subst (λ (us : List U). AreFit level.fits w first us (contexts_of after)) (sym slice.users_are)
            (fit-contexts level w first m.users (contexts_of m) (contexts_of after)
            (λ t i. ap (λ (ls : List (Option ActNo)). contexts_in ls m.kernel.acts m.contexts t i) (sym slice.same.lives)
            ∙ ap (λ (fs : ℕ → Option (Act C)). contexts_in after.kernel.lives fs m.contexts t i) (sym slice.same.acts)
            ∙ ap (λ (cs : List (Option C)). contexts_in after.kernel.lives after.kernel.acts cs t i) (sym slice.contexts_are))
            (fit-same level w b0 first m.users (contexts_of m) c.history.ok (λ t. same-for b0 first put (space_no t))
            (fit-begun level w events m p c (inl low)))))
            between (slice.workload ∙ c.workload) slice.event,
      )
