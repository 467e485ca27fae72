-- The whole of an upcall, from the moment before its up to the end of its event.
use Rattle.std.proofs.Common.{Contains, get_or, ◌≡◌, ℕ, ◌<◌, arith, sym, ◌∙◌, ap, subst, Bool, Option, Some, None, List, [], ◌∷◌, ◌++◌, length, map, slice_get, inl, inr}
use Rattle.std.proofs.lemmas.Bool.{cases_eq}
use Rattle.sa_base.specs.declared.number.ProcNo.{ProcNo}
use Rattle.sa_base.specs.declared.number.SpaceNo.{SpaceNo}
use Rattle.sa_base.specs.declared.number.ActNo.{ActNo}
use Rattle.sa_base.specs.declared.record.Note.{Note}
use Rattle.sa_base.specs.declared.record.Note.TheVariants.{Add}
use Rattle.sa_base.specs.declared.record.Record.{Record}
use Rattle.sa_base.specs.declared.record.Record.TheVariants.{Told, Up as UpRecord}
use Rattle.sa_base.specs.declared.record.Item.{Item}
use Rattle.sa_spaces.specs.Space.{SpaceView}
use Rattle.sa_spaces.specs.Workload.{WorkloadView, IsWorkload}
use Rattle.sa_lemmas.proofs.ListReads.{read-at}
use Rattle.sa_acts.specs.declared.acts.Act.{Act}
use Rattle.sa_batch.specs.Notices.{notes_told}
use Rattle.sa_assign.specs.Aims.{space_no}
use Rattle.sa_laws.specs.Event.{Event}
use Rattle.sa_laws.specs.Life.{Life}
use Rattle.sa_laws.specs.Readings.{Readings, running_of}
use Rattle.sa_laws.specs.History.{after_records, behind_all, after_event, with_step}
use Rattle.sa_laws.proofs.Records.{records-append}
use Rattle.sa_laws.proofs.Closings.{AreClosing}
use Rattle.sa_kernel_model.specs.State.{KernelState, Scene}
use Rattle.sa_kernel_laws.specs.Histories.{IsHistory, read_from}
use Rattle.sa_kernel_laws.specs.Overview.{Overview, overview, read_off}
use Rattle.sa_kernel_laws.proofs.overview.Untold.{copies}
use Rattle.sa_kernel_laws.proofs.overview.Records.{overview-ended}
use Rattle.sa_core_model.specs.Machine.{Machine, context_begun, answered, user_of, context_on, seen_on, scene_of}
use Rattle.sa_core_model.proofs.Turns.{begun-is}
use Rattle.sa_core_model.specs.Turn.{told_all}
use Rattle.sa_core_model.specs.Run.{setting}
use Rattle.sa_core_model.specs.Standing.{contexts_of}
use Rattle.sa_core_model.proofs.Calls.{Tells}
use Rattle.sa_user_laws.specs.Moments.{AlikeButDemands, AlikeButEnds, IsMoment}
use Rattle.sa_user_laws.specs.Level.{UserLevel}
use Rattle.sa_legal_runs.proofs.frames.Moments.{same-for, alike-stays, closing-alike}
use Rattle.sa_legal_runs.proofs.matching.Longer.{last-kept}
use Rattle.sa_legal_runs.proofs.matching.Overviews.{moment-of}
use Rattle.sa_legal_runs.proofs.frames.Lives.{AreMatched, Matches, to-unended, from-unended, matched-ended}
use Rattle.sa_histories.proofs.Sizes.{IsSized}
use Rattle.sa_legal_runs.proofs.frames.Sizes.{sized-records}
use Rattle.sa_legal_runs.proofs.matching.Spaces.{value-of, AreFit, of-space}
use Rattle.sa_legal_runs.proofs.kernel.Telling.{Hearing}
use Rattle.sa_legal_runs.proofs.kernel.Calling.{CanBegin}
use Rattle.sa_legal_runs.proofs.kernel.Passage.{called-scene, history-told, passage-up, passage-ends, overview-ends}

module _ {U C : Type 0} (level : UserLevel U C) where
  -- Who runs where, after the closing.
  moment-hearing : (w : WorkloadView) (e g : ℕ) (p : ProcNo) (s : SpaceNo) (n : ActNo) (us : List (List Note)) (m : Machine U C)
      (told close : Readings)
      → IsWorkload w → Hearing level w e g p s n us [] [] m told → AlikeButDemands told close → overview close ≡ read_off m.kernel
      → length close.state.spaces ≡ length w.spaces
      → length m.kernel.demands ≡ length w.spaces → IsMoment close
  moment-hearing w e g p s n us m told close ok h alike reads size spaces =
      let st = h.tells.standing in
      moment-of w m.kernel close st.sound reads spaces size (λ t below.
      let same_w = h.tells.workload in
      let u = read-at m.users t (omega (arith, below, st.users, ap (λ (v : WorkloadView). length v.spaces) same_w)) in
      let d = read-at w.spaces t below in
      let of = of-space w t d.0 ok d.1 in
      let value = value-of level w e m t u.0 d.0 same_w st u.1 d.1 in
      elim (cases_eq t s.0) [
        | inl same ↦
            let hear : level.hears w (setting w t d.0) told n u.0 (contexts_of m t) =
            subst (λ (i : ℕ). level.hears w (setting w i d.0) told n u.0 (contexts_of m i)) (sym same)
            (h.hear.hear u.0 d.0 (subst (λ (i : ℕ). slice_get m.users i ≡ Some u.0) same u.1)
            (subst (λ (i : ℕ). slice_get w.spaces i ≡ Some d.0) same d.1)) in
            level.laws.hears_threads w (setting w t d.0) e close n u.0 (contexts_of m t) of value
            (level.laws.hears_same w (setting w t d.0) told close n u.0 (contexts_of m t) of alike hear)
        | inr apart ↦
            level.laws.threads w (setting w t d.0) e close u.0 (contexts_of m t) of value
            (level.laws.same w (setting w t d.0) told close u.0 (contexts_of m t) of
            (same-for told close (alike-stays told close alike) (space_no t)) (h.hear.others t u.0 d.0 apart u.1 d.1))
      ])

  -- What an upcall makes of its event.
  pub record Upcalled (w : WorkloadView) (events : List Event) (after : Machine U C) (ev : Event) : Type 0 where
    pub history : IsHistory level.rules.inside w (events ++ ev ∷ []) (scene_of after)
    pub matched : AreMatched after.kernel.acts (after_event level.rules.inside w (read_from level.rules.inside w events) ev).lives
    pub fit : AreFit level.fits w (after_event level.rules.inside w (read_from level.rules.inside w events) ev) after.users
        (contexts_of after)

  pub up-ends : (w : WorkloadView) (events : List Event) (e g : ℕ) (p : ProcNo) (s : SpaceNo) (n : ActNo)
      (lives : List (Option ActNo)) (acts : ℕ → Option (Act C)) (us : List (List Note)) (m : Machine U C) (k : KernelState C)
      (items : List Item) (front : Readings)
      (u : U) (def : SpaceView) (added : Bool) (notes : List Note) (cl : List Record) (ev : Event)
      → (can : CanBegin level w e g p s n lives acts us m k front) → slice_get m.users s.0 ≡ Some u → slice_get w.spaces s.0 ≡ Some def
      → notes ≡ notes_told added p (get_or us s.0 []) → copies (Add p) us ≡ 0
      → Tells level.calls level.stands level.keep w e g p s notes (context_begun level.calls p s (record m { kernel = k; items = items }))
      → let r = read_from level.rules.inside w events in
      let last = behind_all w ev r in
      let close = after_records w g p front ((UpRecord s n ∷ map Told notes) ++ cl) in
      IsHistory level.rules.inside w (events ++ ev ∷ []) (record { state = k; items = items })
      → ev.number ≡ g → ev.proc ≡ p → Contains ev.records (UpRecord s n) → AreClosing cl
      → AlikeButEnds last close → close.lives ≡ with_step level.rules.inside w r ev last ev.records last.lives
      → Upcalled w events (answered level.calls p s
      (told_all level.calls p s notes (context_begun level.calls p s (record m { kernel = k; items = items })))) ev
  up-ends w events e g p s n lives acts us m k items front u def added notes cl ev can at of is none tells history number proc up closes ends stepped =
      let x : Machine U C = context_begun level.calls p s (record m { kernel = k; items = items }) in
      let y : Machine U C = told_all level.calls p s notes x in
      let r = read_from level.rules.inside w events in
      let last = behind_all w ev r in
      let told = after_records w g p front (UpRecord s n ∷ map Told notes) in
      let close = after_records w g p front ((UpRecord s n ∷ map Told notes) ++ cl) in
      let both : close ≡ after_records w g p told cl = records-append w g p front (UpRecord s n ∷ map Told notes) cl in
      let h = passage-up level w e g p s n lives acts us m k items front g u def added notes can at of is none tells in
      let alike : AlikeButDemands told close =
      subst (λ (c : Readings). AlikeButDemands told c) (sym both) (closing-alike w g p told cl closes) in
      let begun_scene : scene_of x ≡ record { state = k; items = items } =
      ap (λ (z : Machine U C). scene_of z)
      (begun-is level.calls level.stands level.keep p s (record m { kernel = k; items = items }) u at) in
      let past : IsHistory level.rules.inside w (events ++ ev ∷ []) (scene_of y) =
      history-told level level.rules.inside w (events ++ ev ∷ []) e g p s notes x tells
      (subst (λ (z : Scene C). IsHistory level.rules.inside w (events ++ ev ∷ []) z) (sym begun_scene) history) in
      let kept = last-kept level.rules.inside w events ev (scene_of y) past in
      let reads_last : overview last ≡ read_off y.kernel = sym (overview-ended level.rules.inside w r ev last) ∙ kept.reads in
      let reads : overview close ≡ read_off y.kernel = overview-ends last close ends ∙ reads_last in
      let sized_close : IsSized w close = sized-records w g p front ((UpRecord s n ∷ map Told notes) ++ cl) can.sized in
      let moment = moment-hearing w e g p s n us y told close can.ok h alike reads sized_close.spaces kept.of.spaces in
      let runs : running_of last p ≡ Some n = ap (λ (v : Overview). get_or v.running p.0 None) reads_last ∙ h.life in
      let below : s.0 < length y.kernel.demands = kept.sound.formed.owners p.0 s h.tells.owner in
      let same : scene_of (answered level.calls p s y) ≡ scene_of y =
      called-scene level (λ u c. level.calls.answered u (seen_on y p s) c) p s (user_of y s) (context_on y p) y in
      record {
        history = subst (λ (z : Scene C). IsHistory level.rules.inside w (events ++ ev ∷ []) z) (sym same) past;
        matched = subst (λ (fs : ℕ → Option (Act C)). AreMatched fs (after_event level.rules.inside w r ev).lives)
            (sym (ap (λ (z : Scene C). z.state.acts) same))
            (matched-ended level.rules.inside w r ev last y.kernel.acts
            (λ a. from-unended (y.kernel.acts a) (last.lives a) (subst (λ (o : Option Life). Matches (y.kernel.acts a) o) (ends.lives a)
            (to-unended (y.kernel.acts a) (close.lives a)
            (subst (λ (ls : ℕ → Option Life). Matches (y.kernel.acts a) (ls a)) (sym alike.lives) (h.matched a))))));
        fit = passage-ends level w events e g p s n us y told close ev h past alike ends stepped moment sized_close runs proc number up below;
      }
