-- A processor is halted: its context is set aside, or none ran there.
use Rattle.std.proofs.Common.{◌+◌, ◌≢◌, is_some, get_or, ◌≡◌, ℕ, ◌<◌, arith, sym, ◌∙◌, ap, subst, refl, Option, Some, None, IsSome, List, [], ◌∷◌, ◌++◌, length, slice_get, slice_set, inl, inr}
use Rattle.std.proofs.lemmas.List.{set-get_or}
use Rattle.std.proofs.lemmas.Bool.{cases_lt, cases_eq}
use Rattle.std.proofs.lemmas.Option.{same_Some, none-some}
use Rattle.sa_lemmas.proofs.Options.{not_some-is}
use Rattle.sa_base.specs.declared.number.ProcNo.{ProcNo}
use Rattle.sa_base.specs.declared.number.SpaceNo.{SpaceNo}
use Rattle.sa_base.specs.declared.number.ThreadNo.{ThreadNo}
use Rattle.sa_base.specs.declared.number.ActNo.{ActNo}
use Rattle.sa_base.specs.declared.context.Stopped.{Stopped}
use Rattle.sa_base.specs.declared.record.Note.{Note}
use Rattle.sa_base.specs.declared.record.Note.TheVariants.{Preempted}
use Rattle.sa_base.specs.declared.record.Record.TheVariants.{Stop}
use Rattle.sa_lemmas.proofs.FunctionUpdates.{put-other}
use Rattle.sa_spaces.specs.Space.{SpaceView}
use Rattle.sa_spaces.specs.Workload.{WorkloadView, IsWorkload}
use Rattle.sa_lemmas.proofs.ListReads.{read-at}
use Rattle.sa_abstract.specs.Calls.{Contexts}
use Rattle.sa_acts.specs.Table.{runs_in, holding, held_of}
use Rattle.sa_assign.specs.Aims.{space_no}
use Rattle.sa_laws.specs.State.{placed_if, runner_on}
use Rattle.sa_laws.specs.declared.place.Place.TheVariants as place
use Rattle.sa_laws.specs.Life.{Life}
use Rattle.sa_laws.specs.Readings.{Readings, running_of, owner_of as owner_in}
use Rattle.sa_laws.specs.Record.{after_record, stopped_with}
use Rattle.sa_kernel_model.specs.State.{KernelState, owner_of}
use Rattle.sa_kernel_model.specs.Parts.{put_aside, with_line}
use Rattle.sa_kernel_laws.proofs.overview.Untold.{copies}
use Rattle.sa_kernel_laws.proofs.overview.Once.{AreApart, apart-noted, apart-claimed, none-of}
use Rattle.sa_core_model.proofs.Phases.{IsAt, Paused, paused-stop, paused-off}
use Rattle.sa_core_model.specs.Machine.{Machine, without_context}
use Rattle.sa_core_model.specs.Run.{setting}
use Rattle.sa_core_model.specs.Standing.{contexts_of, contexts_in}
use Rattle.sa_core_model.proofs.Calls.{runs-at}
use Rattle.sa_core_model.proofs.Running.{contexts-stop}
use Rattle.sa_user_laws.specs.Moments.{runs_in as runs_at}
use Rattle.sa_user_laws.specs.Level.{UserLevel}
use Rattle.sa_legal_runs.proofs.matching.Overviews.{none-there}
use Rattle.sa_legal_runs.proofs.frames.Foreign.{foreign}
use Rattle.sa_legal_runs.proofs.frames.Lives.{AreMatched, matched-aside}
use Rattle.sa_laws.specs.Event.{Event}
use Rattle.sa_core_model.specs.Turn.{next_event}
use Rattle.sa_histories.proofs.Sizes.{IsSized, sized-step}
use Rattle.sa_user_laws.specs.Scene.{event_begun_at}
use Rattle.sa_legal_runs.proofs.matching.Composed.{IsComposed, read}
use Rattle.sa_legal_runs.proofs.matching.OwnRecords.{mine-of}
use Rattle.sa_legal_runs.proofs.frames.Moments.{same-trans, begun-same}
use Rattle.sa_legal_runs.proofs.frames.Foreign.{runs-none}
use Rattle.sa_legal_runs.proofs.matching.Spaces.{AreFit, of-space, fit-contexts}
use Rattle.sa_legal_runs.proofs.matching.EventBegins.{begins-now, acts-at, tidy-now, fit-begun, nobody-runs}

module _ {U C : Type 0} (level : UserLevel U C) where
  -- The machine before is x, the kernel after the stop or block is k, and what is read after its record is r.
  pub record IsHalted (w : WorkloadView) (e : ℕ) (p : ProcNo) (n : ActNo) (x : Machine U C) (k : KernelState C) (r : Readings) : Type 0 where
    pub ok : IsWorkload w
    pub workload : x.workload ≡ w
    pub paused : Paused level.stands e p k.lives k.acts (without_context p x)
    pub fit : AreFit level.fits w r x.users (contexts_in k.lives k.acts (slice_set x.contexts p.0 None))
    pub matched : AreMatched k.acts r.lives
    pub untold : r.untold ≡ k.untold
    pub apart : AreApart k.untold
    pub running : r.running ≡ k.lives
    pub owner : owner_in r p ≡ owner_of k p
    pub owners : r.state.owners ≡ k.assign.owners
    pub unused : k.acts n.0 ≡ None
    pub sized : IsSized w r

  -- So no life runs there, and the fresh one runs nowhere.
  pub free-halted : (w : WorkloadView) (e : ℕ) (p : ProcNo) (n : ActNo) (x : Machine U C) (k : KernelState C) (r : Readings)
      → IsHalted w e p n x k r → running_of r p ≡ None
  free-halted w e p n x k r h = ap (λ (ls : List (Option ActNo)). get_or ls p.0 None) h.running ∙ h.paused.none

  pub nowhere-halted : (w : WorkloadView) (e : ℕ) (p : ProcNo) (n : ActNo) (x : Machine U C) (k : KernelState C) (r : Readings)
      → IsHalted w e p n x k r → (q : ProcNo) → running_of r q ≢ Some n
  nowhere-halted w e p n x k r h q runs =
      let run = h.paused.alive.run q.0 n (sym (ap (λ (ls : List (Option ActNo)). get_or ls q.0 None) h.running) ∙ runs) in
      none-some (runs_in run.space) (sym h.unused ∙ run.act)

  -- No thread runs there then.
  pub nobody-halted : (w : WorkloadView) (e : ℕ) (p : ProcNo) (n : ActNo) (x : Machine U C) (k : KernelState C) (r : Readings)
      → IsHalted w e p n x k r → runner_on r.state p ≡ None
  nobody-halted w e p n x k r h = nobody-runs r.state p (λ s t is. elim (Rattle.std.proofs.lemmas.Bool.cases_lt s.0 (length w.spaces)) [
    | inl below ↦
        let u = read-at x.users s.0 (omega (arith, below, h.paused.users, ap (λ (v : WorkloadView). length v.spaces) h.workload)) in
        let d = read-at w.spaces s.0 below in
        let old : ℕ → Contexts C = contexts_in k.lives k.acts (slice_set x.contexts p.0 None) in
        let value = subst (λ (v : WorkloadView). level.stands (setting v s.0 d.0) e u.0 (old s.0)) h.workload
        (h.paused.values s.0 u.0 d.0 u.1 (subst (λ (v : WorkloadView). slice_get v.spaces s.0 ≡ Some d.0) (sym h.workload) d.1)) in
        let run = (level.laws.threads w (setting w s.0 d.0) e r u.0 (old s.0) (of-space w s.0 d.0 h.ok d.1) value
        (h.fit s.0 u.0 d.0 u.1 d.1)).owned p t is in
        absurd (no-life (running_of r p) (free-halted w e p n x k r h) r.lives s run)
    | inr past ↦ absurd (none-there r.state s t p (omega (arith, past, h.sized.spaces)) is)
  ])
    where
      no-life : (o : Option ActNo) → o ≡ None → (lives : ℕ → Option Life) (s : SpaceNo) → IsSome (runs_at s lives o) → ⊥
      no-life None none lives s is = cc
      no-life (Some a) none lives s is = cc

  -- An interrupt stops the context that runs there.
  pub halted-stop : (w : WorkloadView) (events : List Event) (m : Machine U C) (p : ProcNo) (n : ActNo) (o : SpaceNo)
      → IsComposed level w events m → m.kernel.acts n.0 ≡ None
      → (here : IsAt level.calls level.stands level.keep (next_event m) p o)
      → let held : Stopped C = record { ctx = here.ctx; thread = level.calls.thread here.user here.ctx; idle = level.calls.idle here.user here.ctx } in
      IsHalted w m.event p n (next_event m) (put_aside p o here.act (Preempted here.act) held (with_line p None (next_event m).kernel))
      (after_record w (m.event + 1) p (event_begun_at w (m.event + 1) p (read level w events)) (Stop o held.thread here.act))
  halted-stop w events m p n o composed unused here =
      let held : Stopped C = record { ctx = here.ctx; thread = level.calls.thread here.user here.ctx; idle = level.calls.idle here.user here.ctx } in
      let e = m.event in
      let g = m.event + 1 in
      let x : Machine U C = next_event m in
      let r = read level w events in
      let c = event_begun_at w g p r in
      let k = x.kernel in
      let a = here.act in
      let b = begins-now level w events m p composed in
      let tidy = tidy-now level w events m composed in
      let st = b.rest.standing in
      let next = after_record w g p c (Stop o held.thread a) in
      let at = acts-at level w events m p o composed here in
      let law = level.laws.stops w (setting w o.0 here.def) e r here.user (contexts_of m o.0) p a at.life here.ctx g at.acting in
      let none : copies (Preempted a) k.untold ≡ 0 =
      none-of k st.sound.claimed.told_to (Preempted a) a.0 refl st.sound.claimed.once tidy (ap held_of here.runs) in
      let size : length x.contexts ≡ length k.lives = st.contexts ∙ sym st.lives in
      let mine_of = mine-of o r p a at.life (contexts_of m o.0) here.ctx at.on in
      let fit_now : AreFit level.fits w next x.users (contexts_of x) =
      λ t u def is of. elim (Rattle.std.proofs.lemmas.Bool.cases_eq t o.0) [
        | inl same ↦
            let user : here.user ≡ u = same_Some here.user u (sym here.is_user ∙ subst (λ (i : ℕ). slice_get x.users i ≡ Some u) same is) in
            let defs : here.def ≡ def =
            same_Some here.def def (sym at.def_at ∙ subst (λ (i : ℕ). slice_get w.spaces i ≡ Some def) same of) in
            subst (λ (i : ℕ). level.fits w (setting w i def) next u (contexts_of x i)) (sym same)
            (subst (λ (d : SpaceView). level.fits w (setting w o.0 d) next u (contexts_of x o.0)) defs
            (subst (λ (v : U). level.fits w (setting w o.0 here.def) next v (contexts_of x o.0)) user law.1))
        | inr apart ↦
            level.laws.same w (setting w t def) r next u (contexts_of x t) (of-space w t def b.ok of)
            (same-trans (space_no t) r c next
            (begun-same w g p (space_no t) r (inr (runs-none o (space_no t) r.lives (running_of r p) mine_of apart)))
            (foreign w g p o (space_no t) c (Stop o held.thread a)
            (refl, (λ life has. mine_of a at.on.runs life has), mine_of) apart)) (composed.fit t u def is of)
      ] in
      record {
        ok = b.ok;
        workload = b.rest.workload;
        paused = paused-stop level.calls level.stands level.keep e x p o held st here refl;
        fit = fit-contexts level w next x.users (contexts_of x) _
            (contexts-stop k.assign.owners k.lives k.acts x.contexts p.0 a o
            (runs-at level.calls level.stands level.keep e x p o st here) size held here.is_ctx) fit_now;
        matched = matched-aside a held (stopped_with held.thread) k.acts c.lives (λ life. (refl, refl)) b.matched;
        untold = ap (λ (us : List (List Note)). slice_set us o.0 (get_or us o.0 [] ++ Preempted a ∷ [])) b.untold;
        apart = apart-noted k.untold o (Preempted a) (λ q. refl) none (apart-claimed k st.sound.claimed.told_to st.sound.claimed.once tidy);
        running = ap (λ (ls : List (Option ActNo)). slice_set ls p.0 None) b.running;
        owner = ap (λ (os : List (Option SpaceNo)). get_or os p.0 None) (owners-stop w g p c o held.thread a ∙ b.owners);
        owners = owners-stop w g p c o held.thread a ∙ b.owners;
        unused = put-other k.acts a.0 n.0 (holding held (k.acts a.0))
            (λ same. none-some (runs_in o) (sym unused ∙ ap k.acts same ∙ here.runs)) ∙ unused;
        sized = sized-step w g p c (Stop o held.thread a) b.sized;
      }
    where
      owners-if : (r : Readings) (s : SpaceNo) (t : Option ThreadNo) → (placed_if r.state s t place.Carried).owners ≡ r.state.owners
      owners-if r s None = refl
      owners-if r s (Some t) = refl

      owners-stop : (w : WorkloadView) (g : ℕ) (p : ProcNo) (r : Readings) (s : SpaceNo) (t : Option ThreadNo) (a : ActNo)
          → (after_record w g p r (Stop s t a)).state.owners ≡ r.state.owners
      owners-stop w g p r s t a = owners-if r s t

  -- Where nobody owns the processor, there is nothing to stop.
  pub halted-off : (w : WorkloadView) (events : List Event) (m : Machine U C) (p : ProcNo) (n : ActNo)
      → IsComposed level w events m → m.kernel.acts n.0 ≡ None
      → p.0 < length m.kernel.lives → owner_of m.kernel p ≡ None
      → IsHalted w m.event p n (next_event m) (with_line p None (next_event m).kernel) (event_begun_at w (m.event + 1) p (read level w events))
  halted-off w events m p n composed unused within off =
      let e = m.event in
      let x : Machine U C = next_event m in
      let c = event_begun_at w (m.event + 1) p (read level w events) in
      let b = begins-now level w events m p composed in
      let tidy = tidy-now level w events m composed in
      let k = x.kernel in
      let st = b.rest.standing in
      let paused = paused-off level.calls level.stands level.keep e x p st within off in
      let gone : slice_set x.contexts p.0 None ≡ x.contexts =
      ap (slice_set x.contexts p.0)
      (sym (not_some-is (get_or x.contexts p.0 None) (st.there p.0 ∙ ap (λ (o : Option ActNo). is_some o) paused.none)))
      ∙ set-get_or x.contexts p.0 None in
      record {
        ok = b.ok;
        workload = b.rest.workload;
        paused = paused;
        fit = subst (λ (cs : List (Option C)). AreFit level.fits w c x.users (contexts_in k.lives k.acts cs)) (sym gone)
            (fit-begun level w events m p composed (inr off));
        matched = b.matched;
        untold = b.untold;
        apart = apart-claimed k st.sound.claimed.told_to st.sound.claimed.once tidy;
        running = b.running;
        owner = ap (λ (os : List (Option SpaceNo)). get_or os p.0 None) b.owners;
        owners = b.owners;
        unused = unused;
        sized = b.sized;
      }
