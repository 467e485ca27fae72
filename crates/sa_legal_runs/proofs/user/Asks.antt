-- A step that asks for an entry of the kernel, after which its context goes on.
use Rattle.sa_legal_runs.proofs.matching.OwnRecords.{step-event_foreign}
use Rattle.sa_legal_runs.proofs.matching.Shown.{line-reads, lawful-by, rules-pass, step-turns, strict-due}
use Rattle.sa_legal_runs.proofs.frames.Idle.{is_stop, no-stops, stops-first_both}
use Rattle.sa_legal_runs.proofs.matching.Composed.{traced-of, IsComposed, Goes, read}
use Rattle.std.proofs.lemmas.List.{length-set}
use Rattle.std.proofs.Common.{get_or, ◌≡◌, ◌≢◌, ℕ, ◌+◌, ◌≤◌, sym, ◌∙◌, ap, subst, refl, Bool, false, Option, Some, None, List, [], ◌∷◌, ◌++◌, length, slice_set, ◌||◌}
use Rattle.std.proofs.Math.Path.{fun_ext}
use Rattle.std.proofs.lemmas.Option.{same_Some}
use Rattle.std.specs.List.{list_any}
use Rattle.std.proofs.lemmas.List.Folds.{list_any-append}
use Rattle.sa_base.specs.declared.record.Record.TheVariants.{Line}
use Rattle.sa_base.specs.declared.record.Item.{Item}
use Rattle.sa_base.specs.declared.number.ProcNo.{ProcNo}
use Rattle.sa_base.specs.declared.number.SpaceNo.{SpaceNo}
use Rattle.sa_base.specs.declared.number.ActNo.{ActNo}
use Rattle.sa_base.specs.declared.record.Record.{Record}
use Rattle.sa_base.specs.declared.limits.TheConstants.{MAX_EVENTS}
use Rattle.sa_base.specs.Items.{items_at}
use Rattle.sa_lemmas.specs.Function.{put}
use Rattle.sa_spaces.specs.Space.{SpaceView}
use Rattle.sa_spaces.specs.Workload.{WorkloadView}
use Rattle.sa_abstract.specs.Calls.{Contexts}
use Rattle.sa_acts.specs.declared.acts.Act.{Act}
use Rattle.sa_assign.specs.Aims.{space_no}
use Rattle.sa_devices.specs.Ios.{due_of}
use Rattle.sa_laws.specs.Upcalls.{FirstLineIsAsked}
use Rattle.sa_laws.specs.Life.{Life}
use Rattle.sa_laws.specs.Readings.{Readings, running_of}
use Rattle.sa_laws.specs.Rules.{UserRules}
use Rattle.sa_laws.specs.History.{after_records, after_event, is_up}
use Rattle.sa_laws.specs.Event.{Event}
use Rattle.sa_laws.specs.Shape.{others_of}
use Rattle.sa_laws.specs.Step.{AreSteps}
use Rattle.sa_laws.proofs.Records.{records-append}
use Rattle.sa_kernel_model.specs.Entries.{entered_as}
use Rattle.sa_kernel_model.specs.State.{KernelState, Scene, owner_of, line_of}
use Rattle.sa_kernel_laws.proofs.entries.Walks.{AreOwn}
use Rattle.sa_kernel_laws.specs.Overview.{overview, read_off}
use Rattle.sa_kernel_laws.proofs.overview.Records.{overview-ended}
use Rattle.sa_kernel_model.specs.declared.entry.Entry.{Entry}
use Rattle.sa_kernel_model.specs.Closing.{closed}
use Rattle.sa_kernel_laws.specs.Histories.{IsHistory}
use Rattle.sa_kernel_laws.specs.Turn.{Turn, CanTurn}
use Rattle.sa_kernel_model.proofs.sound.Held.{stays-closed}
use Rattle.sa_core_model.proofs.Phases.{IsAt}
use Rattle.sa_core_model.specs.Machine.{Machine, step_to, seen_on, with_pair, called_by, context_on, scene_of}
use Rattle.sa_core_model.specs.Run.{setting}
use Rattle.sa_core_model.specs.Standing.{contexts_of, contexts_in, IsBetween}
use Rattle.sa_core_model.proofs.Calls.{runs-at}
use Rattle.sa_core_model.proofs.Running.{contexts-put, contexts-put_kept}
use Rattle.sa_core_model.specs.Turn.{next_event, kernel_entered, hinted, answered_in}
use Rattle.sa_user_laws.specs.Moments.{SameFor, AlikeButDemands, Sees}
use Rattle.sa_user_laws.specs.Scene.{event_begun_at}
use Rattle.sa_user_laws.specs.Steps.{event_with, IsLegalAsk, records_asked}
use Rattle.sa_user_laws.specs.Level.{UserLevel}
use Rattle.sa_legal_runs.proofs.matching.Overviews.{sees-of}
use Rattle.sa_legal_runs.proofs.frames.Moments.{closing-alike}
use Rattle.sa_legal_runs.proofs.frames.Foreign.{AreLivesOf}
use Rattle.sa_legal_runs.proofs.frames.Lives.{AreMatched, matched-ended}
use Rattle.sa_legal_runs.proofs.matching.Spaces.{AreFit, but-same, but-all, fit-put, but-put}
use Rattle.sa_legal_runs.proofs.matching.EventBegins.{acts-at, begins-now}
use Rattle.sa_legal_runs.proofs.matching.EventLaws.{closing-no_up}
use Rattle.sa_legal_runs.proofs.matching.Longer.{Parted, parted, history-turn, last-kept}
use Rattle.sa_legal_runs.proofs.user.Blocks.{stepped-at}

first-same : (rules : UserRules) (w : WorkloadView) (r : Readings) (p : ProcNo) (xs ys : List Record) → xs ≢ []
    → FirstLineIsAsked rules.Lines w r p xs → FirstLineIsAsked rules.Lines w r p (xs ++ ys)
first-same rules w r p [] ys some asked = absurd (some refl)
first-same rules w r p (Line q ∷ xs) ys some asked = asked
first-same rules w r p (x ∷ xs) ys some asked = tt

module _ {U C : Type 0} (level : UserLevel U C) where
  -- What an entry that a step asked for does.
  pub record Entering (w : WorkloadView) (r : Readings) (g : ℕ) (p : ProcNo) (n : ActNo) (s : SpaceNo) (k : KernelState C)
      (entry : Entry C) (own : List Record) : Type 0 where
    pub items : (items : List Item) → (entered_as g p n entry (record { state = k; items = items })).items ≡ items ++ items_at g p own
    pub some : own ≢ []
    pub are : AreOwn (others_of own)
    pub no_up : list_any is_up own ≡ false
    pub no_stop : list_any is_stop own ≡ false
    pub steps : AreSteps w g p (event_begun_at w g p r) own
    pub owner : (items : List Item) → owner_of (entered_as g p n entry (record { state = k; items = items })).state p ≡ Some s
    pub telling : (items : List Item) → (entered_as g p n entry (record { state = k; items = items })).state.telling ≡ k.telling
    pub others : (t : SpaceNo) → t.0 ≢ s.0 → SameFor t (event_begun_at w g p r) (after_records w g p (event_begun_at w g p r) own)
    pub spaces : AreLivesOf s (after_records w g p (event_begun_at w g p r) own).lives (running_of r p)
    pub matched : (items : List Item)
        → AreMatched (entered_as g p n entry (record { state = k; items = items })).state.acts
        (after_records w g p (event_begun_at w g p r) own).lives
    pub contexts : (items : List Item) (cs : List (Option C)) (t i : ℕ)
        → contexts_in k.lives k.acts cs t i ≡ contexts_in
        (entered_as g p n entry (record { state = k; items = items })).state.lives
        (entered_as g p n entry (record { state = k; items = items })).state.acts cs t i

  -- A STEP THAT ASKS for a hint, for the return of activations, or for a line.
  pub asked-goes : (w : WorkloadView) (events : List Event) (m : Machine U C) (p : ProcNo) (n : ActNo) (s : SpaceNo)
      (entry : Entry C) → (c : IsComposed level w events m)
      → line_of m.kernel p ≡ None → due_of (m.event + 1) m.kernel.under_way ≡ None → m.event + 1 ≤ MAX_EVENTS
      → (here : IsAt level.calls level.stands level.keep (next_event m) p s)
      → let x : Machine U C = next_event m in
      let g = m.event + 1 in
      let r = read level w events in
      let st = level.calls.stepped here.user (seen_on x p s) here.ctx in
      let own = records_asked r s st.answer in
      let t : Turn C = record { number = g; proc = p; says = st.says; fresh = n; entry = Some entry } in
      let after : Machine U C = hinted level.calls p n entry (step_to level.calls p s st x) in
      IsLegalAsk level.calls level.rules level.fits w (setting w s.0 here.def) r p g here.act (contexts_of m s.0) st
      → CanTurn w m.kernel r t → Entering w r g p n s x.kernel entry own → FirstLineIsAsked level.rules.Lines w r p own
      → IsBetween level.stands after → after.workload ≡ w → after.event ≡ g
      → (ev : Event) × Goes level w events m p after ev
  asked-goes w events m p n s entry c low due few here good can enter asked between workload event =
      let x : Machine U C = next_event m in
      let g = m.event + 1 in
      let r = read level w events in
      let b0 = event_begun_at w g p r in
      let b = begins-now level w events m p c in
      let at = acts-at level w events m p s c here in
      let st = level.calls.stepped here.user (seen_on x p s) here.ctx in
      let own = records_asked r s st.answer in
      let k = x.kernel in
      let set = setting w s.0 here.def in
      let t : Turn C = record { number = g; proc = p; says = st.says; fresh = n; entry = Some entry } in
      let list : List Item = m.items ++ items_at g p st.says in
      let z : Scene C = entered_as g p n entry (record { state = k; items = list }) in
      let kk : Scene C = closed g p z in
      let stays = stays-closed g p z in
      let none : items_at g p st.says ≡ [] = ap (items_at g p) good.none in
      let part : Parted t m.kernel own = parted w m.kernel r t own c.history.ok c.history.kept can enter.some enter.are
      (enter.items (items_at g p st.says) ∙ ap (λ (xs : List Item). xs ++ items_at g p own) none) in
      let cl = part.closing in
      let ev : Event = event_with g p own cl in
      let past = history-turn level.rules.inside w events m.kernel m.items t c.history can in
      let history : IsHistory level.rules.inside w (events ++ ev ∷ []) kk =
      subst (λ (e : Event). IsHistory level.rules.inside w (events ++ e ∷ []) kk) part.is past in
      let kept = last-kept level.rules.inside w events ev kk history in
      let first = after_records w g p b0 own in
      let last = after_records w g p b0 (own ++ cl) in
      let behind : last ≡ after_records w g p first cl = records-append w g p b0 own cl in
      let alike : AlikeButDemands first last =
      subst (λ (v : Readings). AlikeButDemands first v) (sym behind) (closing-alike w g p first cl part.closes) in
      let final = after_event level.rules.inside w r ev in
      let reads : overview last ≡ read_off kk.state = sym (overview-ended level.rules.inside w r ev last) ∙ kept.reads in
      let owner : owner_of kk.state p ≡ Some s = ap (λ (os : List (Option SpaceNo)). get_or os p.0 None) stays.owners ∙ enter.owner list in
      let y : Machine U C = kernel_entered p n entry (step_to level.calls p s st x) in
      let seen = seen_on y p s in
      let telling : kk.state.telling ≡ [] = stays.telling ∙ enter.telling list ∙ c.between.fetched in
      let sees : Sees s last p g seen = sees-of kk.state last p s g kept.sound reads telling (kept.sound.formed.owners p.0 s owner) in
      let v : U × C = level.calls.answered st.user seen st.ctx in
      let there = stepped-at level w m.event g p s x b.rest here st in
      let no_up : list_any is_up ev.records ≡ false =
      list_any-append is_up own cl ∙ ap (λ (q : Bool). q || list_any is_up cl) enter.no_up ∙ closing-no_up cl part.closes in
      let others : (u : SpaceNo) → u.0 ≢ s.0 → SameFor u r final = λ u apart.
      step-event_foreign level.rules w r g p s u own cl
      (line-reads level w events m p c.history ∙ low) part.closes no_up enter.spaces apart (enter.others u apart) in
      let runs = runs-at level.calls level.stands level.keep m.event x p s b.rest.standing here in
      let size : length m.contexts ≡ length k.lives = b.rest.standing.contexts ∙ sym b.rest.standing.lives in
      let cs1 : List (Option C) = slice_set m.contexts p.0 (Some st.ctx) in
      let cs2 : List (Option C) = slice_set cs1 p.0 (Some v.1) in
      let to : (u i : ℕ) → contexts_in k.lives k.acts cs2 u i ≡ contexts_in kk.state.lives kk.state.acts cs2 u i =
      λ u i. enter.contexts list cs2 u i
      ∙ ap (λ (ls : List (Option ActNo)). contexts_in ls z.state.acts cs2 u i) (sym stays.lives)
      ∙ ap (λ (fs : ℕ → Option (Act C)). contexts_in kk.state.lives fs cs2 u i) (sym stays.acts) in
      let after_is : hinted level.calls p n entry (step_to level.calls p s st x) ≡ with_pair p s v.0 v.1 y =
      ap (λ (o : Option SpaceNo). answered_in level.calls p o y) owner
      ∙ ap (λ (o : Option U). called_by (λ u q. level.calls.answered u seen q) p s o (context_on y p) y) there.is_user
      ∙ ap (λ (o : Option C). called_by (λ u q. level.calls.answered u seen q) p s (Some st.user) o y) there.is_ctx in
      let new = good.after cl seen part.parts alike sees in
      let fit_now : AreFit level.fits w final (slice_set (slice_set m.users s.0 st.user) s.0 v.0)
      (contexts_in kk.state.lives kk.state.acts cs2) =
      fit-put level w final s.0 (slice_set m.users s.0 st.user) v.0 (contexts_in k.lives k.acts cs1)
      (contexts_in kk.state.lives kk.state.acts cs2)
      (λ u apart i. contexts-put_kept k.assign.owners k.lives k.acts cs1 p.0 here.act s runs (Some v.1) u apart i ∙ to u i)
      (λ d of. subst (λ (q : SpaceView). level.fits w (setting w s.0 q) final v.0
      (contexts_in kk.state.lives kk.state.acts cs2 s.0)) (same_Some here.def d (sym at.def_at ∙ of))
      (subst (λ (q : Contexts C). level.fits w set final v.0 q)
      (fun_ext (λ i. ap (λ (q : Contexts C). put q here.act.0 (Some v.1) i)
      (fun_ext (contexts-put k.assign.owners k.lives k.acts m.contexts p.0 here.act s runs size here.within st.ctx))
      ∙ contexts-put k.assign.owners k.lives k.acts cs1 p.0 here.act s runs
      (length-set m.contexts p.0 (Some st.ctx) ∙ size) here.within v.1 i ∙ to s.0 i)) new))
      (but-put level w final s.0 m.users st.user (contexts_of m) (contexts_in k.lives k.acts cs1)
      (contexts-put_kept k.assign.owners k.lives k.acts m.contexts p.0 here.act s runs (Some st.ctx))
      (but-same level w r final s.0 m.users (contexts_of m) b.ok (λ u apart. others (space_no u) apart)
      (but-all level w r s.0 m.users (contexts_of m) c.fit))) in
      let rules = good.rules_hold cl part.parts in (
        ev,
        record {
          between = between;
          workload = workload;
          event = event;
          number = refl;
          proc = refl;
          history = subst (λ (q : Machine U C). IsHistory level.rules.inside w (events ++ ev ∷ []) (scene_of q)) (sym after_is) history;
          strict = strict-due level w events m p own cl c.history due;
          stops = stops-first_both own cl (no-stops own enter.no_stop) part.closes;
          lawful = lawful-by level w events m kk p own cl (traced-of level w events m c) history (record {
            within = can.within;
            some = enter.some;
            parts = part.parts;
            closes = part.closes;
            steps = enter.steps;
            first = first-same level.rules w r p own cl enter.some asked;
            turn = step-turns level w events m p s own c.history low due here.owner rules.steps;
            rules = rules-pass level w r ev own rules;
          });
          matched = subst (λ (q : Machine U C). AreMatched q.kernel.acts final.lives) (sym after_is)
              (matched-ended level.rules.inside w r ev last kk.state.acts
              (subst (λ (ls : ℕ → Option Life). AreMatched kk.state.acts ls) (sym alike.lives)
              (subst (λ (fs : ℕ → Option (Act C)). AreMatched fs first.lives) (sym stays.acts) (enter.matched list))));
          fit = subst (λ (q : Machine U C). AreFit level.fits w final q.users (contexts_of q)) (sym after_is) fit_now;
        },
      )
