-- A processor passes to a space by an upcall: from the moment after the stop or the block to the end of the event.
use Rattle.std.proofs.Common.{Contains, IsSome, get_or, ◌≡◌, ℕ, ◌<◌, sym, ◌∙◌, ap, subst, refl, Bool, true, false, Option, Some, None, List, [], ◌∷◌, ◌++◌, length, map, slice_get}
use Rattle.std.specs.List.{list_any}
use Rattle.std.proofs.lemmas.List.{set-get_or}
use Rattle.sa_base.specs.declared.number.ProcNo.{ProcNo}
use Rattle.sa_base.specs.declared.number.SpaceNo.{SpaceNo}
use Rattle.sa_base.specs.declared.number.ActNo.{ActNo}
use Rattle.sa_base.specs.declared.record.Item.{Item}
use Rattle.sa_base.specs.declared.record.Note.{Note}
use Rattle.sa_base.specs.declared.record.Note.TheVariants.{Add}
use Rattle.sa_base.specs.declared.record.Record.TheVariants.{Told, Up}
use Rattle.sa_spaces.specs.Space.{SpaceView}
use Rattle.sa_spaces.specs.Workload.{WorkloadView}
use Rattle.sa_acts.specs.declared.acts.Act.{Act}
use Rattle.sa_batch.specs.Notices.{notes_told}
use Rattle.sa_assign.specs.Aims.{space_no}
use Rattle.sa_laws.specs.Event.{Event}
use Rattle.sa_laws.specs.Life.{Life}
use Rattle.sa_laws.specs.Readings.{Readings, running_of, line_of}
use Rattle.std.proofs.lemmas.List.Folds.{list_any_at}
use Rattle.sa_base.specs.declared.record.Record.{Record}
use Rattle.sa_laws.specs.Record.{after_record, with_life}
use Rattle.sa_laws.specs.History.{Test, after_records, behind_all, after_event, with_step, arisen, is_up}
use Rattle.sa_kernel_model.specs.State.{KernelState, Scene}
use Rattle.sa_kernel_model.specs.Entries.{after_fetch, held_for}
use Rattle.sa_kernel_laws.specs.Histories.{IsHistory, read_from}
use Rattle.sa_kernel_laws.specs.Overview.{overview, read_off, space_of}
use Rattle.sa_kernel_laws.proofs.histories.Histories.{history-fetched}
use Rattle.sa_kernel_laws.proofs.overview.Untold.{copies}
use Rattle.sa_kernel_laws.proofs.overview.Records.{overview-ended}
use Rattle.sa_core_model.specs.Machine.{Machine, user_of, context_on, seen_on, context_begun, answered, called_by, scene_of}
use Rattle.sa_core_model.specs.Turn.{told_one, told_all}
use Rattle.sa_core_model.specs.Standing.{contexts_of}
use Rattle.sa_core_model.proofs.Calls.{Tells, tells-next}
use Rattle.sa_user_laws.specs.Moments.{unended, AlikeButDemands, AlikeButEnds, IsMoment, Sees}
use Rattle.sa_user_laws.specs.Level.{UserLevel}
use Rattle.sa_legal_runs.proofs.frames.Moments.{same-for}
use Rattle.sa_legal_runs.proofs.matching.EventLaws.{ended-both}
use Rattle.sa_legal_runs.proofs.matching.Longer.{last-kept}
use Rattle.sa_legal_runs.proofs.matching.Overviews.{sees-of}
use Rattle.sa_histories.proofs.Sizes.{IsSized}
use Rattle.sa_legal_runs.proofs.matching.Spaces.{AreFit, fit-same}
use Rattle.sa_legal_runs.proofs.kernel.Telling.{Hearing, hearing-all, hearing-added}
use Rattle.sa_legal_runs.proofs.kernel.Calling.{CanBegin, hearing-begun, hearing-answered, risen}

space-unended : (o : Option Life) → space_of (unended o) ≡ space_of o
space-unended None = refl
space-unended (Some life) = refl

-- The ends of own events change nothing that the kernel knows.
pub overview-ends : (m n : Readings) → AlikeButEnds m n → overview n ≡ overview m
overview-ends m n ends =
    let spaces : (a : ℕ) → space_of (n.lives a) ≡ space_of (m.lives a) =
    λ a. sym (space-unended (n.lives a)) ∙ ap space_of (ends.lives a) ∙ space-unended (m.lives a) in
    ap overview ends.is ∙ (λ i. record (overview m) { spaces = λ a. spaces a i })

-- An up of an event is found by a search.
has-up : (s : SpaceNo) (n : ActNo) (xs : List Record) → Contains xs (Up s n) → list_any is_up xs ≡ true
has-up s n xs has = list_any_at is_up xs has.0 (Up s n) has.1 (ap is_up has.2)

module _ {U C : Type 0} (level : UserLevel U C) where
  pub called-scene : (call : U → C → U × C) (p : ProcNo) (s : SpaceNo) (u : Option U) (c : Option C) (m : Machine U C)
      → scene_of (called_by call p s u c m) ≡ scene_of m
  called-scene call p s None c m = refl
  called-scene call p s (Some u) None m = refl
  called-scene call p s (Some u) (Some c) m = refl

  -- The fetches of an upcall's notices add nothing to the history.
  pub history-told : (test : Test) (w : WorkloadView) (events : List Event) (e g : ℕ) (p : ProcNo) (s : SpaceNo)
      (notes : List Note) (m : Machine U C) → Tells level.calls level.stands level.keep w e g p s notes m
      → IsHistory test w events (scene_of m) → IsHistory test w events (scene_of (told_all level.calls p s notes m))
  history-told test w events e g p s [] m tells h = h
  history-told test w events e g p s (note ∷ notes) m tells h =
      let one : scene_of (told_one level.calls p s note notes m) ≡ record { state = after_fetch m.kernel.telling m.kernel; items = m.items } =
      called-scene (λ u c. level.calls.told u c note (held_for m.kernel note)) p s (user_of m s) (context_on m p)
      (record m { kernel = after_fetch (note ∷ notes) m.kernel })
      ∙ ap (λ (ns : List Note). let x : Scene C = record { state = after_fetch ns m.kernel; items = m.items } in x) (sym tells.telling) in
      history-told test w events e g p s notes (told_one level.calls p s note notes m)
      (tells-next level.calls level.stands level.keep w e g m p s note notes tells)
      (subst (λ (x : Scene C). IsHistory test w events x) (sym one) (history-fetched test w events (scene_of m) h))

  -- This leads from the up to the last told record.
  pub passage-up : (w : WorkloadView) (e g : ℕ) (p : ProcNo) (s : SpaceNo) (n : ActNo) (lives : List (Option ActNo))
      (acts : ℕ → Option (Act C)) (us : List (List Note)) (m : Machine U C) (k : KernelState C) (items : List Item) (r : Readings) (number : ℕ)
      (u : U) (def : SpaceView) (added : Bool) (notes : List Note)
      → CanBegin level w e g p s n lives acts us m k r → slice_get m.users s.0 ≡ Some u → slice_get w.spaces s.0 ≡ Some def
      → notes ≡ notes_told added p (get_or us s.0 []) → copies (Add p) us ≡ 0
      → Tells level.calls level.stands level.keep w e g p s notes (context_begun level.calls p s (record m { kernel = k; items = items }))
      → Hearing level w e g p s n us [] []
      (told_all level.calls p s notes (context_begun level.calls p s (record m { kernel = k; items = items })))
      (after_records w number p r (Up s n ∷ map Told notes))
  passage-up w e g p s n lives acts us m k items r number u def false notes can at of is none tells =
      let x = context_begun level.calls p s (record m { kernel = k; items = items }) in
      let first = hearing-begun level w e g p s n lives acts us m k items r number u def notes can at of tells in
      subst (λ (ns : List Note). Hearing level w e g p s n us ns (get_or us s.0 []) x (after_record w number p r (Up s n))
      → Hearing level w e g p s n us [] [] (told_all level.calls p s ns x) (after_records w number p r (Up s n ∷ map Told ns))) (sym is)
      (λ h. hearing-all level w e g p s n us (get_or us s.0 []) x (after_record w number p r (Up s n)) number can.ok h) first
  passage-up w e g p s n lives acts us m k items r number u def true notes can at of is none tells =
      let x = context_begun level.calls p s (record m { kernel = k; items = items }) in
      let first = hearing-begun level w e g p s n lives acts us m k items r number u def notes can at of tells in
      subst (λ (ns : List Note). Hearing level w e g p s n us ns (get_or us s.0 []) x (after_record w number p r (Up s n))
      → Hearing level w e g p s n us [] [] (told_all level.calls p s ns x) (after_records w number p r (Up s n ∷ map Told ns))) (sym is)
      (λ h. hearing-added level w e g p s n us p (get_or us s.0 []) x (after_record w number p r (Up s n)) number can.ok
      (ap (copies (Add p)) (set-get_or us s.0 []) ∙ none) h) first

  -- This leads from there to the end of the event. Where a life has blocked in it, the end of that life's own event
  -- is in `close` already.
  pub passage-ends : (w : WorkloadView) (events : List Event) (e g : ℕ) (p : ProcNo) (s : SpaceNo) (n : ActNo)
      (us : List (List Note)) (m : Machine U C) (told close : Readings) (ev : Event)
      → (h : Hearing level w e g p s n us [] [] m told) → IsHistory level.rules.inside w (events ++ ev ∷ []) (scene_of m)
      → let r = read_from level.rules.inside w events in
      let last = behind_all w ev r in
      AlikeButDemands told close → AlikeButEnds last close → close.lives ≡ with_step level.rules.inside w r ev last ev.records last.lives
      → IsMoment close → IsSized w close → running_of last p ≡ Some n → ev.proc ≡ p → ev.number ≡ g → Contains ev.records (Up s n)
      → s.0 < length m.kernel.demands
      → AreFit level.fits w (after_event level.rules.inside w r ev) (answered level.calls p s m).users
      (contexts_of (answered level.calls p s m))
  passage-ends w events e g p s n us m told close ev h history alike ends stepped moment sized runs proc number up below =
      let r = read_from level.rules.inside w events in
      let last = behind_all w ev r in
      let kept = last-kept level.rules.inside w events ev (scene_of m) history in
      let same : close ≡ record last { lives = close.lives } = ends.is in
      let reads : overview close ≡ read_off m.kernel =
      overview-ends last close ends ∙ sym (overview-ended level.rules.inside w r ev last) ∙ kept.reads in
      let sees : Sees s close p ev.number (seen_on m p s) =
      subst (λ (i : ℕ). Sees s close p i (seen_on m p s)) (h.tells.event ∙ sym number)
      (sees-of m.kernel close p s m.event kept.sound reads h.tells.telling below) in
      let there = hearing-answered level w e g p s n us m r told close last ev history.ok h alike moment sized reads ends
      (ap (λ (c : Readings). running_of c p) ends.is ∙ runs) proc up sees in
      let final = risen level w r ev last n close in
      let lives : (after_event level.rules.inside w r ev).lives ≡ final.lives =
      ended-both level.rules.inside w r ev last n (has-up s n ev.records up)
      (subst (λ (q : ProcNo). running_of last q ≡ Some n) (sym proc) runs)
      ∙ ap (λ (ls : ℕ → Option Life). with_life (arisen level.rules.inside w r ev last) (Some n) ls) (sym stepped) in
      fit-same level w final (after_event level.rules.inside w r ev) (answered level.calls p s m).users
      (contexts_of (answered level.calls p s m)) history.ok
      (λ t. same-for final (after_event level.rules.inside w r ev) (record {
        spaces = sym (ap (λ (c : Readings). c.state.spaces) ends.is);
        lives = lives;
        running = sym (ap (λ (c : Readings). c.running) ends.is);
        taken = sym (ap (λ (c : Readings). c.taken) ends.is);
        untold = sym (ap (λ (c : Readings). c.untold) ends.is);
        ready = sym (ap (λ (c : Readings). c.ready) ends.is);
        lines = λ q raised. subst (λ (c : Readings). IsSome (line_of c q)) ends.is raised;
      }) (space_no t)) there
