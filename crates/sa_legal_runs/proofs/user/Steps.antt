-- A step that asks for nothing.
use Rattle.std.proofs.Common.{◌≡◌, ◌≢◌, ℕ, ◌+◌, ◌≤◌, arith, sym, ◌∙◌, ap, subst, refl, Bool, false, ◌&&◌, ◌||◌, Option, Some, None, List, ◌++◌, length, slice_set}
use Rattle.std.proofs.lemmas.List.Folds.{list_all-append, list_any-append}
use Rattle.std.specs.List.{list_all, list_any}
use Rattle.std.proofs.Math.Path.{fun_ext}
use Rattle.std.proofs.lemmas.Option.{same_Some}
use Rattle.sa_base.specs.declared.number.ProcNo.{ProcNo}
use Rattle.sa_base.specs.declared.number.SpaceNo.{SpaceNo}
use Rattle.sa_base.specs.declared.number.ActNo.{ActNo}
use Rattle.sa_base.specs.declared.limits.TheConstants.{MAX_EVENTS}
use Rattle.sa_spaces.specs.Space.{SpaceView}
use Rattle.sa_spaces.specs.Workload.{WorkloadView}
use Rattle.sa_abstract.specs.Calls.{Contexts}
use Rattle.sa_abstract.specs.declared.answer.Step.TheVariants.{Did}
use Rattle.sa_abstract.specs.declared.answer.Step.{Step}
use Rattle.sa_acts.specs.declared.acts.Act.{Act}
use Rattle.sa_assign.specs.Aims.{space_no}
use Rattle.sa_devices.specs.Ios.{due_of}
use Rattle.sa_laws.specs.Event.{Event}
use Rattle.sa_laws.specs.Readings.{Readings, running_of}
use Rattle.sa_laws.specs.History.{after_records, after_event, is_up}
use Rattle.sa_laws.proofs.Records.{records-append}
use Rattle.sa_kernel_laws.proofs.overview.Records.{users-records}
use Rattle.sa_kernel_model.specs.State.{line_of}
use Rattle.sa_kernel_laws.specs.Overview.{Overview}
use Rattle.sa_core_model.specs.Machine.{Machine, seen_on, step_to}
use Rattle.sa_core_model.specs.Turn.{next_event, sliced}
use Rattle.sa_core_model.specs.Run.{setting}
use Rattle.sa_core_model.specs.Standing.{contexts_of, contexts_in, IsBetween}
use Rattle.sa_core_model.proofs.Phases.{IsAt}
use Rattle.sa_core_model.proofs.Calls.{runs-at}
use Rattle.sa_core_model.proofs.Running.{contexts-put, contexts-put_kept}
use Rattle.sa_core_model.proofs.Turns.{step-law}
use Rattle.sa_user_laws.specs.Moments.{AlikeButDemands, SameFor, Alike}
use Rattle.sa_user_laws.specs.Steps.{IsLegalDid, IsLegalAnswer, event_with}
use Rattle.sa_user_laws.specs.Scene.{event_begun_at}
use Rattle.sa_user_laws.specs.Level.{UserLevel}
use Rattle.sa_legal_runs.proofs.matching.Composed.{traced-of, IsComposed, Goes, read}
use Rattle.sa_legal_runs.proofs.frames.Moments.{closing-alike}
use Rattle.sa_legal_runs.proofs.frames.Lives.{AreMatched, leaves_lives, matched-records, matched-ended}
use Rattle.sa_legal_runs.proofs.matching.Spaces.{AreFit, but-same, but-all, fit-put}
use Rattle.sa_legal_runs.proofs.matching.EventLaws.{closing-no_up}
use Rattle.sa_legal_runs.proofs.matching.EventBegins.{begins-now, acts-at, steps-legally}
use Rattle.sa_legal_runs.proofs.matching.Slices.{sliced-goes}
use Rattle.sa_legal_runs.proofs.matching.OwnRecords.{mine-of, step-event_foreign, foreign-says, says-users, users-leave, closing-leave, users-no_up, users-no_stop, users-first, of-spaces}
use Rattle.sa_legal_runs.proofs.matching.Shown.{line-reads, lawful-by, rules-pass, step-turns, strict-due}
use Rattle.sa_legal_runs.proofs.frames.Idle.{no-stops, stops-first_both}

module _ {U C : Type 0} (level : UserLevel U C) where
  -- A STEP THAT ASKS FOR NOTHING.
  pub did-goes : (w : WorkloadView) (events : List Event) (m : Machine U C) (p : ProcNo) (s : SpaceNo) → (c : IsComposed level w events m)
      → line_of m.kernel p ≡ None → due_of (m.event + 1) m.kernel.under_way ≡ None → m.event + 1 ≤ MAX_EVENTS
      → (here : IsAt level.calls level.stands level.keep (next_event m) p s)
      → let x : Machine U C = next_event m in
      let st = level.calls.stepped here.user (seen_on x p s) here.ctx in
      st.answer ≡ Did
      → let after = sliced p (step_to level.calls p s st x) in
      IsBetween level.stands after
      → (ev : Event) × Goes level w events m p after ev
  did-goes w events m p s c low due few here did between =
      let x : Machine U C = next_event m in
      let g = m.event + 1 in
      let r = read level w events in
      let b0 = event_begun_at w g p r in
      let b = begins-now level w events m p c in
      let at = acts-at level w events m p s c here in
      let set = setting w s.0 here.def in
      let st = level.calls.stepped here.user (seen_on x p s) here.ctx in
      let says = st.says in
      let users : List U = slice_set m.users s.0 st.user in
      let contexts : List (Option C) = slice_set m.contexts p.0 (Some st.ctx) in
      let own = (step-law level.calls level.stands level.keep m.event x p s b.rest.standing here (omega arith) few).own in
      let are = says-users s says own in
      let k = x.kernel in
      let good = steps-legally level w events m p s c low few here in
      let answer : IsLegalDid level.calls level.rules level.fits w set r p g here.act (contexts_of m s.0) st =
      subst (λ (a : Step). IsLegalAnswer level.calls level.rules level.fits w set r p g here.act
      (contexts_of m s.0) st a) did good.answer in
      let slice = sliced-goes level w events m p says users contexts (traced-of level w events m c) low here.within answer.some are in
      let cl = slice.closing in
      let ev : Event = event_with g p says cl in
      let rules = answer.rules_hold cl slice.parts in
      let first = after_records w g p b0 says in
      let last = after_records w g p b0 (says ++ cl) in
      let close : AlikeButDemands first last =
      subst (λ (z : Readings). AlikeButDemands first z) (sym (records-append w g p b0 says cl))
      (closing-alike w g p first cl slice.closes) in
      let alike : Alike first last = record { kernel = close; demands = slice.demands } in
      let final = after_event level.rules.inside w r ev in
      let no_up : list_any is_up ev.records ≡ false =
      list_any-append is_up says cl ∙ ap (λ (z : Bool). z || list_any is_up cl) (users-no_up says are)
      ∙ closing-no_up cl slice.closes in
      let mine = mine-of s r p here.act at.life (contexts_of m s.0) here.ctx at.on in
      let others : (t : SpaceNo) → t.0 ≢ s.0 → SameFor t r final = λ t apart.
      step-event_foreign level.rules w r g p s t says cl (line-reads level w events m p c.history ∙ low) slice.closes no_up
      (of-spaces s r.lives first.lives (running_of r p)
      (λ i. ap (λ (v : Overview). v.spaces i) (users-records w g p b0 says are)) mine) apart
      (foreign-says w g p s t b0 says own mine apart) in
      let runs = runs-at level.calls level.stands level.keep m.event x p s b.rest.standing here in
      let size : length m.contexts ≡ length k.lives = b.rest.standing.contexts ∙ sym b.rest.standing.lives in
      let after : Machine U C = sliced p (step_to level.calls p s st x) in
      let to : (t i : ℕ) → contexts_in k.lives k.acts contexts t i ≡ contexts_of after t i = λ t i.
      ap (λ (ls : List (Option ActNo)). contexts_in ls k.acts contexts t i) (sym slice.same.lives)
      ∙ ap (λ (fs : ℕ → Option (Act C)). contexts_in after.kernel.lives fs contexts t i) (sym slice.same.acts)
      ∙ ap (λ (cs : List (Option C)). contexts_in after.kernel.lives after.kernel.acts cs t i) (sym slice.contexts_are) in (
        ev,
        record {
          between = between;
          workload = slice.workload ∙ c.workload;
          event = slice.event;
          number = refl;
          proc = refl;
          history = slice.history;
          strict = strict-due level w events m p says cl c.history due;
          stops = stops-first_both says cl (no-stops says (users-no_stop says are)) slice.closes;
          lawful = lawful-by level w events m _ p says cl (traced-of level w events m c) slice.history (record {
            within = here.within;
            some = answer.some;
            parts = slice.parts;
            closes = slice.closes;
            steps = good.steps;
            first = users-first level.rules w r p says cl answer.some are;
            turn = step-turns level w events m p s says c.history low due here.owner rules.steps;
            rules = rules-pass level w r ev says rules;
          });
          matched = subst (λ (fs : ℕ → Option (Act C)). AreMatched fs final.lives) (sym slice.same.acts)
              (matched-ended level.rules.inside w r ev last k.acts (matched-records w g p b0 (says ++ cl) k.acts
              (list_all-append leaves_lives says cl ∙ ap (λ (z : Bool). z && list_all leaves_lives cl) (users-leave says are)
              ∙ closing-leave cl slice.closes) c.matched));
          fit = subst (λ (us : List U). AreFit level.fits w final us (contexts_of after)) (sym slice.users_are)
              (fit-put level w final s.0 m.users st.user (contexts_of m) (contexts_of after)
              (λ t apart i. contexts-put_kept k.assign.owners k.lives k.acts m.contexts p.0 here.act s runs
              (Some st.ctx) t apart i ∙ to t i)
              (λ d of. subst (λ (y : SpaceView). level.fits w (setting w s.0 y) final st.user (contexts_of after s.0))
              (same_Some here.def d (sym at.def_at ∙ of))
              (subst (λ (cs : Contexts C). level.fits w set final st.user cs)
              (fun_ext (λ i. contexts-put k.assign.owners k.lives k.acts m.contexts p.0 here.act s runs size here.within st.ctx i
              ∙ to s.0 i)) (answer.after cl slice.parts alike)))
              (but-same level w r final s.0 m.users (contexts_of m) b.ok (λ t apart. others (space_no t) apart)
              (but-all level w r s.0 m.users (contexts_of m) c.fit)));
        },
      )
