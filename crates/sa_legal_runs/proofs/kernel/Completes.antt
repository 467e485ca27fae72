-- A completion: a blocked life comes back, or an upcall page was fetched.
use Rattle.sa_laws.specs.declared.place.Place.TheVariants as place
use Rattle.std.proofs.lemmas.List.Sums.{get_or-le-sum_by}
use Rattle.std.specs.Prelude.{◌==◌, sum_by}
use Rattle.std.proofs.lemmas.List.{append-nil}
use Rattle.std.proofs.Common.{get_or, ◌≡◌, ℕ, suc, ◌+◌, ◌<◌, ◌≤◌, arith, sym, ◌∙◌, ap, subst, refl, true, false, Option, Some, None, List, [], ◌∷◌, ◌++◌, length, slice_get, inl, inr, Contains, Bool, All, ◌&&◌}
use Rattle.std.proofs.lemmas.Bool.{cases_eq, eq-eqb}
use Rattle.std.proofs.lemmas.Option.{same_Some, get_or_from_slice_get, none-some, slice_get_within}
use Rattle.std.proofs.lemmas.Bool.Decides.{nat_tests}
use Rattle.sa_base.specs.declared.record.Record.TheVariants.{Unblock, Fetched}
use Rattle.sa_base.specs.declared.record.Item.{Item}
use Rattle.sa_base.specs.declared.number.ProcNo.{ProcNo}
use Rattle.sa_base.specs.declared.number.SpaceNo.{SpaceNo}
use Rattle.sa_base.specs.declared.number.ThreadNo.{ThreadNo}
use Rattle.sa_base.specs.declared.number.ActNo.{ActNo}
use Rattle.sa_base.specs.declared.context.Stopped.{Stopped}
use Rattle.sa_base.specs.declared.record.Note.{Note}
use Rattle.sa_base.specs.declared.record.Note.TheVariants.{Preempted, Unblocked}
use Rattle.sa_base.specs.declared.number.IoNo.{IoNo}
use Rattle.sa_base.specs.Items.{items_at}
use Rattle.sa_spaces.specs.Space.{SpaceView}
use Rattle.sa_spaces.specs.Workload.{WorkloadView}
use Rattle.sa_acts.specs.Table.{held_of}
use Rattle.sa_acts.specs.declared.acts.Act.{Act}
use Rattle.sa_assign.specs.Aims.{space_no}
use Rattle.sa_devices.specs.Ios.{Io, due_of, io_no, io_at, is_number}
use Rattle.sa_laws.specs.Turns.{IsOver}
use Rattle.sa_laws.specs.Record.{after_record, is_io_of, is_kind_of}
use Rattle.sa_laws.specs.Readings.{untold_of, Readings}
use Rattle.sa_laws.specs.History.{after_records}
use Rattle.sa_laws.specs.Event.{Event}
use Rattle.sa_laws.specs.Step.{StandsIn, Needs}
use Rattle.sa_kernel_model.specs.Entries.{entered, entered_as, thread_of, kind_at, over}
use Rattle.sa_kernel_model.specs.Sound.{note_claim, io_claim, AreIos, kind_claim}
use Rattle.sa_kernel_model.specs.State.{Scene, line_of}
use Rattle.sa_kernel_laws.proofs.overview.Untold.{once_if}
use Rattle.sa_kernel_laws.proofs.overview.Once.{held-few}
use Rattle.sa_kernel_laws.proofs.entries.Walks.{not-empty}
use Rattle.sa_kernel_laws.specs.Overview.{Overview}
use Rattle.sa_kernel_model.specs.declared.entry.Entry.{Entry}
use Rattle.sa_kernel_model.specs.declared.entry.Entry.TheVariants.{Complete}
use Rattle.sa_kernel_model.specs.Closing.{closed}
use Rattle.sa_kernel_laws.specs.Histories.{IsHistory}
use Rattle.sa_kernel_laws.specs.Turn.{Turn, CanTurn, event_of}
use Rattle.sa_core_model.specs.Standing.{is_life, contexts_of, contexts_in, IsBetween}
use Rattle.sa_core_model.specs.Machine.{Machine}
use Rattle.sa_core_model.specs.Run.{setting}
use Rattle.sa_core_model.proofs.Calls.{held-for, kept-of}
use Rattle.sa_core_model.proofs.Running.{IsHeld, held-no_life, context-held}
use Rattle.sa_core_model.specs.Turn.{next_event, entered_on}
use Rattle.sa_core_model.proofs.Effects.{SameRuns, same-closed, same-over}
use Rattle.sa_user_laws.specs.Scene.{event_begun_at}
use Rattle.sa_user_laws.specs.Steps.{event_with}
use Rattle.sa_user_laws.specs.Level.{UserLevel}
use Rattle.sa_legal_runs.proofs.matching.Composed.{IsComposed, Goes, read}
use Rattle.sa_legal_runs.proofs.frames.Moments.{StaysPut, same-for, plain-stays}
use Rattle.sa_legal_runs.proofs.matching.Spaces.{fit-same, fit-contexts, AreFit, of-space, holds-of}
use Rattle.sa_legal_runs.proofs.frames.Foreign.{foreign, IsLifeOf}
use Rattle.sa_legal_runs.proofs.frames.Lives.{AreMatched, matched-records, IsHeldAlike}
use Rattle.sa_legal_runs.proofs.matching.EventBegins.{begins-now, fit-begun}
use Rattle.sa_legal_runs.proofs.kernel.Telling.{matched-of, matched-some}
use Rattle.sa_legal_runs.proofs.matching.Longer.{Parted, parted, history-turn}
use Rattle.std.specs.List.{find, list_any}
use Rattle.std.proofs.lemmas.List.Folds.{list_any_at}
use Rattle.std.specs.Option.{option_map}
use Rattle.sa_lemmas.proofs.ListReads.{read-at}
use Rattle.sa_devices.specs.declared.kind.IoKind.{IoKind}
use Rattle.sa_devices.specs.declared.kind.IoKind.TheVariants.{Plain, Page, Upcall}
use Rattle.sa_devices.specs.Pages.{IsKind}
use Rattle.sa_legal_runs.proofs.frames.IoNumbers.{AreRising, due-there}
use Rattle.sa_legal_runs.proofs.matching.Shown.{over-turns, strict-over_due}
use Rattle.sa_legal_runs.proofs.kernel.Ticks.{kernel-goes}
use Rattle.sa_legal_runs.proofs.matching.Overviews.{begun-reads}

find-at : (xs : List Io) (test : Io → Bool) (d : Io) → find test xs ≡ Some d → (i : ℕ) × (slice_get xs i ≡ Some d)
find-at [] test d is = absurd (none-some d is)
find-at (x ∷ xs) test d is = go (test x) is (find-at xs test d)
  where
    go : (b : Bool) → Rattle.std.proofs.Common.cond b (Some x) (find test xs) ≡ Some d
        → (find test xs ≡ Some d → (i : ℕ) × (slice_get xs i ≡ Some d)) → (i : ℕ) × (slice_get (x ∷ xs) i ≡ Some d)
    go true e rest = (0, e)
    go false e rest = let z = rest e in (suc z.0, z.1)

all-at : (P : Io → Type 0) (xs : List Io) → All P xs → (i : ℕ) (d : Io) → slice_get xs i ≡ Some d → P d
all-at P xs all i d is = subst P (get_or_from_slice_get xs i d d is) (all i d (slice_get_within xs i d is))

self-claim : (s : SpaceNo) (a : ActNo) → kind_claim s.0 a.0 (Plain s a) ≡ 1
self-claim s a =
    let one : (s.0 == s.0) ≡ true = grind (arith, nat_tests) in
    let two : (a.0 == a.0) ≡ true = grind (arith, nat_tests) in
    ap (λ (b : Bool). once_if (b && a.0 == a.0)) one ∙ ap once_if two

-- A notice that waits is counted.
claimed-note : (a : ℕ) (n : Note) (ns : List Note) → Contains ns n → note_claim a n ≡ 1 → 1 ≤ sum_by (note_claim a) ns
claimed-note a n ns has one =
    let part = get_or-le-sum_by (note_claim a) ns has.0 n has.1 in
    let at : note_claim a (get_or ns has.0 n) ≡ 1 = ap (note_claim a) has.2 ∙ one in
    omega (arith, part, at)

module _ {U C : Type 0} (level : UserLevel U C) where
  -- A BLOCKED LIFE COMES BACK.
  unblock-goes : (w : WorkloadView) (events : List Event) (m : Machine U C) (p : ProcNo) (n : ActNo) (s : SpaceNo) (a : ActNo)
      (io : IoNo) (due_io : Io) → (c : IsComposed level w events m)
      → line_of m.kernel p ≡ None → due_of (m.event + 1) m.kernel.under_way ≡ Some due_io
      → 1 ≤ sum_by (io_claim s.0 a.0) m.kernel.under_way → list_any (is_io_of a) m.kernel.under_way ≡ true → s.0 < length w.spaces
      → let x : Machine U C = next_event m in
      let g = m.event + 1 in
      let r = read level w events in
      let k = x.kernel in
      let entry : Entry C = Complete io in
      let own = Unblock s (thread_of (held_of (k.acts a.0))) a ∷ [] in
      let t : Turn C = record { number = g; proc = p; says = []; fresh = n; entry = Some entry } in
      let after : Machine U C = entered_on level.calls p n entry x in
      IsOver due_io.kind own → CanTurn w m.kernel r t
      → ((items : List Item) → (entered_as g p n entry (record { state = k; items = items })).items ≡ items ++ items_at g p own)
      → ((items : List Item) → SameRuns k (entered_as g p n entry (record { state = k; items = items })).state)
      → IsBetween level.stands after → after.workload ≡ w → after.event ≡ g
      → (ev : Event) × Goes level w events m p after ev
  unblock-goes w events m p n s a io due_io c low due claim busy below over can adds same between workload event =
      let x : Machine U C = next_event m in
      let g = m.event + 1 in
      let r = read level w events in
      let b0 = event_begun_at w g p r in
      let b = begins-now level w events m p c in
      let k = x.kernel in
      let st = b.rest.standing in
      let fit_b = fit-begun level w events m p c (inl low) in
      let entry : Entry C = Complete io in
      let after : Machine U C = entered_on level.calls p n entry x in
      let thread = thread_of (held_of (k.acts a.0)) in
      let back = Unblock s thread a in
      let own = back ∷ [] in
      let t : Turn C = record { number = g; proc = p; says = []; fresh = n; entry = Some entry } in
      let count = st.sound.claimed.once s.0 a.0 in
      let few = held-few (k.acts a.0) s.0 in
      let kept = kept-of s.0 (k.acts a.0) (omega (arith, count, claim)) in
      let held : Stopped C = kept.stopped in
      let is_held : held_of (k.acts a.0) ≡ Some held = held-for s.0 (k.acts a.0) kept in
      let at_held : IsHeld k.assign.owners k.lives k.acts m.contexts a.0 kept.act held =
      record { alive = st.sound.formed.lives; is = kept.is; holds = kept.holds } in
      let mine : contexts_of m s.0 a.0 ≡ Some held.ctx =
      subst (λ (i : ℕ). contexts_of m i a.0 ≡ Some held.ctx) kept.space
      (context-held k.assign.owners k.lives k.acts m.contexts a.0 kept.act held at_held) in
      let found = matched-some (k.acts a.0) (r.lives a.0) kept.act kept.is (c.matched a.0) in
      let of_life : IsLifeOf s r.lives a = matched-of s k.acts r.lives a kept.act c.matched kept.is kept.space in
      let same_thread : thread ≡ found.0.thread =
      ap thread_of is_held ∙ sym (subst (λ (y : Option (Stopped C)). IsHeldAlike y found.0) kept.holds found.3) in
      let untold : untold_of b0 s ≡ get_or k.untold s.0 [] = ap (λ (us : List (List Note)). get_or us s.0 []) b.untold in
      let none : (note : Note) → note_claim a.0 note ≡ 1 → Contains (untold_of b0 s) note → ⊥ = λ note one has.
      let more = claimed-note a.0 note (get_or k.untold s.0 []) (subst (λ (ns : List Note). Contains ns note) untold has) one in
      absurd (omega (arith, count, claim, few, more)) in
      let user = read-at m.users s.0 (omega (arith, below, st.users, ap (λ (v : WorkloadView). length v.spaces) c.workload)) in
      let def = read-at w.spaces s.0 below in
      let set = setting w s.0 def.0 in
      let holds = holds-of level w m.event x b0 s.0 user.0 def.0 c.history.ok c.workload st b.rest.fetched
      (begun-reads w m.kernel r g p c.history.kept low) b.sized b.moment user.1 def.1 in
      let law = level.laws.unblocks w set m.event b0 user.0 (contexts_of m s.0) p a found.0 held.ctx g holds
      (fit_b s.0 user.0 def.0 user.1 def.1) mine found.1 (of_life found.0 found.1)
      (λ q runs. not-on k.lives q.0 a (held-no_life k.assign.owners k.lives k.acts m.contexts a.0 kept.act held at_held q.0)
      (ap (λ (ls : List (Option ActNo)). get_or ls q.0 None) (sym b.running) ∙ runs))
      (none (Preempted a) (grind (arith, nat_tests))) (none (Unblocked a) (grind (arith, nat_tests))) in
      let first = after_record w g p b0 back in
      let new : level.fits w set first user.0 (contexts_of m s.0) =
      subst (λ (y : Option ThreadNo). level.fits w set (after_record w g p b0 (Unblock s y a)) user.0 (contexts_of m s.0))
      (sym same_thread) law.1 in
      let fit_first : AreFit level.fits w first m.users (contexts_of m) = λ i u d is at. elim (cases_eq i s.0) [
        | inl e ↦
            let us : user.0 ≡ u = same_Some user.0 u (sym user.1 ∙ subst (λ (j : ℕ). slice_get m.users j ≡ Some u) e is) in
            let ds : def.0 ≡ d = same_Some def.0 d (sym def.1 ∙ subst (λ (j : ℕ). slice_get w.spaces j ≡ Some d) e at) in
            subst (λ (j : ℕ). level.fits w (setting w j d) first u (contexts_of m j)) (sym e)
            (subst (λ (y : SpaceView). level.fits w (setting w s.0 y) first u (contexts_of m s.0)) ds
            (subst (λ (y : U). level.fits w set first y (contexts_of m s.0)) us new))
        | inr apart ↦ level.laws.same w (setting w i d) b0 first u (contexts_of m i) (of-space w i d c.history.ok at)
            (foreign w g p s (space_no i) b0 back (refl, of_life) apart) (fit_b i u d is at)
      ] in
      let part : Parted t m.kernel own = parted w m.kernel r t own c.history.ok c.history.kept can (not-empty back []) refl (adds []) in
      let cl = part.closing in
      let ev : Event = event_with g p own cl in
      let z : Scene C = entered_as g p n entry (record { state = k; items = m.items }) in
      let kk : Scene C = closed g p z in
      let past = history-turn level.rules.inside w events m.kernel m.items t c.history can in
      let history : IsHistory level.rules.inside w (events ++ ev ∷ []) kk =
      subst (λ (e : Event). IsHistory level.rules.inside w (events ++ e ∷ []) kk) part.is
      (subst (λ (xs : List Item). IsHistory level.rules.inside w (events ++ event_of t m.kernel ∷ [])
      (entered g p n entry (record { state = k; items = xs }))) (append-nil m.items) past) in
      let runs = same m.items in
      let closing = same-closed g p z in
      let back_is : Needs w p b0 back = record {
        life = found.0;
        is = found.1;
        space = of_life found.0 found.1;
        thread = sym same_thread;
        io = ap (λ (q : Overview). list_any (is_io_of a) q.under_way) c.history.kept.reads ∙ busy;
        blocked = subst (λ (y : Option ThreadNo). StandsIn place.Blocked b0.state s y) (sym same_thread) law.0;
      } in (
        ev,
        kernel-goes level w events m after p own cl c can.within (not-empty back []) refl refl refl refl part.parts part.closes history
            (back_is, tt) (inr (inl (due_io.kind, over))) (over-turns level w events m p due_io own c.history low due over)
            (strict-over_due level w events m p due_io own cl c.history due over part.parts)
            (subst (λ (fs : ℕ → Option (Act C)). AreMatched fs first.lives) (sym (closing.acts ∙ runs.acts))
            (matched-records w g p b0 own k.acts refl c.matched))
            (fit-contexts level w first m.users (contexts_of m) _
            (λ i j. ap (λ (ls : List (Option ActNo)). contexts_in ls k.acts m.contexts i j) (sym (closing.lives ∙ runs.lives))
            ∙ ap (λ (fs : ℕ → Option (Act C)). contexts_in kk.state.lives fs m.contexts i j) (sym (closing.acts ∙ runs.acts)))
            fit_first)
            between workload event,
      )
    where
      not-on : (lives : List (Option ActNo)) (q : ℕ) (a : ActNo) → is_life a.0 (get_or lives q None) ≡ false
          → get_or lives q None ≡ Some a → ⊥
      not-on lives q a off is =
          let no_self : (a.0 == a.0) ≡ false = sym (ap (is_life a.0) is) ∙ off in
          let self : (a.0 == a.0) ≡ true = grind (arith, nat_tests) in
          cc

  -- AN UPCALL PAGE WAS FETCHED.
  fetched-goes : (w : WorkloadView) (events : List Event) (m : Machine U C) (p : ProcNo) (n : ActNo) (s : SpaceNo) (io : IoNo)
      (due_io : Io) → (c : IsComposed level w events m)
      → line_of m.kernel p ≡ None → due_of (m.event + 1) m.kernel.under_way ≡ Some due_io → due_io.kind ≡ Upcall s
      → let x : Machine U C = next_event m in
      let g = m.event + 1 in
      let r = read level w events in
      let k = x.kernel in
      let entry : Entry C = Complete io in
      let own = Fetched s ∷ [] in
      let t : Turn C = record { number = g; proc = p; says = []; fresh = n; entry = Some entry } in
      let after : Machine U C = entered_on level.calls p n entry x in
      CanTurn w m.kernel r t
      → ((items : List Item) → (entered_as g p n entry (record { state = k; items = items })).items ≡ items ++ items_at g p own)
      → ((items : List Item) → SameRuns k (entered_as g p n entry (record { state = k; items = items })).state)
      → IsBetween level.stands after → after.workload ≡ w → after.event ≡ g
      → (ev : Event) × Goes level w events m p after ev
  fetched-goes w events m p n s io due_io c low due kind can adds same between workload event =
      let x : Machine U C = next_event m in
      let g = m.event + 1 in
      let r = read level w events in
      let b0 = event_begun_at w g p r in
      let k = x.kernel in
      let entry : Entry C = Complete io in
      let own = Fetched s ∷ [] in
      let over : IsOver due_io.kind own = subst (λ (q : IoKind). IsOver q own) (sym kind) refl in
      let t : Turn C = record { number = g; proc = p; says = []; fresh = n; entry = Some entry } in
      let part : Parted t m.kernel own =
      parted w m.kernel r t own c.history.ok c.history.kept can (not-empty (Fetched s) []) refl (adds []) in
      let cl = part.closing in
      let ev : Event = event_with g p own cl in
      let z : Scene C = entered_as g p n entry (record { state = k; items = m.items }) in
      let kk : Scene C = closed g p z in
      let past = history-turn level.rules.inside w events m.kernel m.items t c.history can in
      let history : IsHistory level.rules.inside w (events ++ ev ∷ []) kk =
      subst (λ (e : Event). IsHistory level.rules.inside w (events ++ e ∷ []) kk) part.is
      (subst (λ (xs : List Item). IsHistory level.rules.inside w (events ++ event_of t m.kernel ∷ [])
      (entered g p n entry (record { state = k; items = xs }))) (append-nil m.items) past) in
      let after : Machine U C = entered_on level.calls p n entry x in
      let first = after_records w g p b0 own in
      let put : StaysPut b0 first = plain-stays w g p b0 (Fetched s) refl in
      let runs = same m.items in
      let closing = same-closed g p z in (
        ev,
        kernel-goes level w events m after p own cl c can.within
            (not-empty (Fetched s) []) refl refl refl refl part.parts part.closes history
            (tt, tt) (inr (inl (due_io.kind, over)))
            (over-turns level w events m p due_io own c.history low due over)
            (strict-over_due level w events m p due_io own cl c.history due over part.parts)
            (subst (λ (fs : ℕ → Option (Act C)). AreMatched fs first.lives) (sym (closing.acts ∙ runs.acts)) c.matched)
            (fit-contexts level w first m.users (contexts_of m) _
            (λ i j. ap (λ (ls : List (Option ActNo)). contexts_in ls k.acts m.contexts i j) (sym (closing.lives ∙ runs.lives))
            ∙ ap (λ (fs : ℕ → Option (Act C)). contexts_in kk.state.lives fs m.contexts i j) (sym (closing.acts ∙ runs.acts)))
            (fit-same level w b0 first m.users (contexts_of m) c.history.ok (λ t. same-for b0 first put (space_no t))
            (fit-begun level w events m p c (inl low))))
            between workload event,
      )

  -- THE COMPLETION of the I/O that is due is one or the other.
  pub complete-goes : (w : WorkloadView) (events : List Event) (m : Machine U C) (p : ProcNo) (n : ActNo) (due_io : Io)
      → (c : IsComposed level w events m)
      → line_of m.kernel p ≡ None → due_of (m.event + 1) m.kernel.under_way ≡ Some due_io → p.0 < length m.kernel.lives
      → m.kernel.acts n.0 ≡ None
      → let after : Machine U C = entered_on level.calls p n (Complete (io_no due_io)) (next_event m) in
      IsBetween level.stands after → after.workload ≡ w → after.event ≡ m.event + 1
      → (ev : Event) × Goes level w events m p after ev
  complete-goes w events m p n due_io c low due within unused between workload event = go due_io.kind refl
    where
      x : Machine U C
      x = next_event m

      g : ℕ
      g = m.event + 1

      io : IoNo
      io = io_no due_io

      after : Machine U C
      after = entered_on level.calls p n (Complete io) x

      r : Readings
      r = read level w events

      there : io_at due_io.number m.kernel.under_way ≡ Some due_io
      there = due-there g m.kernel.io_count m.kernel.under_way due_io
          (subst (λ (q : Overview). AreRising 0 q.io_count q.under_way) c.history.kept.reads c.ios) due

      kind_is : kind_at due_io.number m.kernel.under_way ≡ Some due_io.kind
      kind_is = ap (option_map (λ (q : Io). q.kind)) there

      t : Turn C
      t = record { number = g; proc = p; says = []; fresh = n; entry = Some (Complete io) }

      can : CanTurn w m.kernel r t
      can =
          record {
            within = within;
            later = omega arith;
            unused = unused;
            fetched = c.between.fetched;
            fits = record { here = due_io; under_way = there; low = low };
            says = refl;
          }

      sound_ios : AreIos (length m.kernel.demands) m.kernel.under_way
      sound_ios = c.between.standing.sound.formed.ios

      place : (i : ℕ) × (slice_get m.kernel.under_way i ≡ Some due_io)
      place = find-at m.kernel.under_way (is_number due_io.number) due_io there

      is_kind : IsKind (length m.kernel.demands) due_io.kind
      is_kind = all-at (λ (q : Io). IsKind (length m.kernel.demands) q.kind) m.kernel.under_way sound_ios place.0 due_io place.1

      spaces : length m.kernel.demands ≡ length w.spaces
      spaces = c.history.kept.of.spaces

      over_is : (items : List Item)
          → entered_as g p n (Complete io) (record { state = x.kernel; items = items }) ≡ over g p io (Some due_io.kind)
          (record { state = x.kernel; items = items })
      over_is items = ap (λ (o : Option IoKind). over g p io o (record { state = x.kernel; items = items })) kind_is

      claims : (s : SpaceNo) (a : ActNo) → io_claim s.0 a.0 due_io ≡ 1 → 1 ≤ sum_by (io_claim s.0 a.0) m.kernel.under_way
      claims s a one = let part =
          get_or-le-sum_by (io_claim s.0 a.0) m.kernel.under_way place.0 due_io
          (slice_get_within m.kernel.under_way place.0 due_io place.1) in
          let at : io_claim s.0 a.0 (get_or m.kernel.under_way place.0 due_io) ≡ 1 =
          ap (io_claim s.0 a.0) (get_or_from_slice_get m.kernel.under_way place.0 due_io due_io place.1) ∙ one in
          omega (arith, part, at)

      busy : (a : ActNo) → is_kind_of a due_io.kind ≡ true → list_any (is_io_of a) m.kernel.under_way ≡ true
      busy a is = list_any_at (is_io_of a) m.kernel.under_way place.0 due_io (slice_get_within m.kernel.under_way place.0 due_io place.1)
          (ap (is_io_of a) (get_or_from_slice_get m.kernel.under_way place.0 due_io due_io place.1) ∙ is)

      runs : (items : List Item) → SameRuns x.kernel (entered_as g p n (Complete io) (record { state = x.kernel; items = items })).state
      runs items = same-over g p io (kind_at io.0 x.kernel.under_way) (record { state = x.kernel; items = items })

      go : (kind : IoKind) → due_io.kind ≡ kind → (ev : Event) × Goes level w events m p after ev
      go (Plain s a) is = unblock-goes w events m p n s a io due_io c low due
          (claims s a (ap (kind_claim s.0 a.0) is ∙ self-claim s a)) (busy a (ap (is_kind_of a) is ∙ eq-eqb a.0 a.0 refl))
          (let z = subst (λ (q : IoKind). IsKind (length m.kernel.demands) q) is is_kind in omega (arith, z, spaces))
          (subst (λ (q : IoKind). IsOver q (Unblock s (thread_of (held_of (x.kernel.acts a.0))) a ∷ [])) (sym is) (refl, refl)) can
          (λ items. ap (λ (z : Scene C). z.items)
          (over_is items ∙ ap (λ (q : IoKind). over g p io (Some q)
          (record { state = x.kernel; items = items })) is)) runs between workload event
      go (Page s a i) is = unblock-goes w events m p n s a io due_io c low due
          (claims s a (ap (kind_claim s.0 a.0) is ∙ self-claim s a)) (busy a (ap (is_kind_of a) is ∙ eq-eqb a.0 a.0 refl))
          (let z = (subst (λ (q : IoKind). IsKind (length m.kernel.demands) q) is is_kind).0 in omega (arith, z, spaces))
          (subst (λ (q : IoKind). IsOver q (Unblock s (thread_of (held_of (x.kernel.acts a.0))) a ∷ [])) (sym is) (refl, refl)) can
          (λ items. ap (λ (z : Scene C). z.items)
          (over_is items ∙ ap (λ (q : IoKind). over g p io (Some q)
          (record { state = x.kernel; items = items })) is)) runs between workload event
      go (Upcall s) is = fetched-goes w events m p n s io due_io c low due is can
          (λ items. ap (λ (z : Scene C). z.items)
          (over_is items ∙ ap (λ (q : IoKind). over g p io (Some q)
          (record { state = x.kernel; items = items })) is)) runs between workload event
