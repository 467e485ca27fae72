-- A step that blocks halts its processor.
use Rattle.sa_laws.specs.declared.place.Place.TheVariants as place
use Rattle.sa_laws.specs.Event.{Event}
use Rattle.sa_core_model.proofs.Commits.{get-set}
use Rattle.sa_core_model.specs.Turn.{next_event}
use Rattle.sa_kernel_model.specs.State.{line_of}
use Rattle.sa_user_laws.specs.Scene.{event_begun_at}
use Rattle.sa_legal_runs.proofs.frames.Sizes.{sized-records, sized-lives}
use Rattle.sa_legal_runs.proofs.matching.Composed.{IsComposed, read}
use Rattle.std.proofs.Common.{inl, slice_set, get_or, ◌≡◌, ◌≢◌, ℕ, ◌+◌, ◌<◌, ◌≤◌, arith, sym, ◌∙◌, ap, subst, refl, Option, Some, None, List, [], ◌∷◌, ◌++◌, length}
use Rattle.std.proofs.Math.Path.{fun_ext}
use Rattle.std.proofs.lemmas.Option.{same_Some, none-some}
use Rattle.std.proofs.lemmas.List.{get_or-set_same}
use Rattle.sa_base.specs.declared.number.ProcNo.{ProcNo}
use Rattle.sa_base.specs.declared.number.SpaceNo.{SpaceNo}
use Rattle.sa_base.specs.declared.number.ThreadNo.{ThreadNo}
use Rattle.sa_base.specs.declared.number.ActNo.{ActNo}
use Rattle.sa_base.specs.declared.context.Stopped.{Stopped}
use Rattle.sa_base.specs.declared.record.Note.{Note}
use Rattle.sa_base.specs.declared.limits.TheConstants.{MAX_EVENTS}
use Rattle.sa_base.specs.declared.number.IoNo.{IoNo}
use Rattle.sa_base.specs.declared.record.Record.TheVariants.{Block}
use Rattle.sa_base.specs.declared.record.Note.TheVariants.{Blocked}
use Rattle.sa_lemmas.specs.Function.{put}
use Rattle.sa_lemmas.proofs.FunctionUpdates.{put-other}
use Rattle.sa_spaces.specs.Space.{SpaceView}
use Rattle.sa_spaces.specs.Workload.{WorkloadView}
use Rattle.sa_abstract.specs.Calls.{Contexts, Stepped}
use Rattle.sa_acts.specs.Table.{runs_in, holding, held_of}
use Rattle.sa_assign.specs.Aims.{space_no}
use Rattle.sa_laws.specs.State.{placed_if}
use Rattle.sa_laws.specs.Life.{Life, held_with}
use Rattle.sa_laws.specs.Readings.{Readings, running_of, owner_of as owner_in}
use Rattle.sa_laws.specs.Record.{after_record, with_life}
use Rattle.sa_laws.specs.History.{after_records}
use Rattle.sa_laws.proofs.Records.{records-append}
use Rattle.sa_kernel_model.specs.Parts.{put_aside, with_io}
use Rattle.sa_kernel_laws.proofs.overview.Untold.{copies}
use Rattle.sa_kernel_laws.proofs.overview.Once.{apart-noted, apart-claimed, none-of}
use Rattle.sa_kernel_model.specs.Entries.{io_for}
use Rattle.sa_kernel_laws.specs.Overview.{Overview, overview}
use Rattle.sa_kernel_laws.proofs.overview.Records.{users-records, spaces-with, spaces_at}
use Rattle.sa_core_model.specs.Machine.{Machine, step_to, seen_on}
use Rattle.sa_core_model.specs.Run.{setting}
use Rattle.sa_core_model.specs.Standing.{contexts_of}
use Rattle.sa_core_model.proofs.Phases.{IsAt, paused-stop}
use Rattle.sa_core_model.proofs.Calls.{runs-at}
use Rattle.sa_core_model.proofs.Running.{contexts-stop, contexts-put, contexts-put_kept}
use Rattle.sa_core_model.proofs.Turns.{Rests, rests-stepped, step-law}
use Rattle.sa_user_laws.specs.Moments.{SameFor}
use Rattle.sa_user_laws.specs.Level.{UserLevel}
use Rattle.sa_legal_runs.proofs.frames.Foreign.{AreLivesOf, foreign, lives-foreign, runs-alike, IsLifeOf}
use Rattle.sa_legal_runs.proofs.frames.Lives.{AreMatched, matched-aside, KeepsThread, matched-with, matched-records}
use Rattle.sa_legal_runs.proofs.matching.Spaces.{AreFit, but-same, but-all, fit-contexts, fit-put}
use Rattle.sa_legal_runs.proofs.matching.EventBegins.{begins-now, acts-at, tidy-now, fit-begun}
use Rattle.sa_legal_runs.proofs.user.EarlyEnds.{early}
use Rattle.sa_legal_runs.proofs.matching.OwnRecords.{mine-of, foreign-says, says-users, users-leave, of-spaces}
use Rattle.sa_legal_runs.proofs.frames.Moments.{same-trans}
use Rattle.sa_legal_runs.proofs.kernel.Halted.{IsHalted}

module _ {U C : Type 0} (level : UserLevel U C) where
  -- the context that has made its step, where it is
  abbrev pub stepped-at : (w : WorkloadView) (e g : ℕ) (p : ProcNo) (s : SpaceNo) (x : Machine U C)
      → Rests level.calls level.stands level.keep w e g x → (here : IsAt level.calls level.stands level.keep x p s)
      → (st : Stepped U C) → IsAt level.calls level.stands level.keep (step_to level.calls p s st x) p s
  stepped-at w e g p s x rest here st = record {
    act = here.act;
    user = st.user;
    ctx = st.ctx;
    def = here.def;
    owner = here.owner;
    life = here.life;
    within = here.within;
    runs = here.runs;
    is_user = get-set x.users s.0 st.user here.user here.is_user;
    is_ctx = get_or-set_same x.contexts p.0 (Some st.ctx) None (omega (arith, here.within, rest.standing.contexts, rest.standing.lives));
    is_def = here.is_def;
  }

  -- A block sets the context aside, and the life's own event counts as ended there: its life is changed by h.
  pub halted-block : (w : WorkloadView) (events : List Event) (m : Machine U C) (p : ProcNo) (n : ActNo) (s : SpaceNo) (len : ℕ)
      (page : Option ℕ) (h : Life → Life)
      → IsComposed level w events m → line_of m.kernel p ≡ None → m.kernel.acts n.0 ≡ None → m.event + 1 ≤ MAX_EVENTS
      → (here : IsAt level.calls level.stands level.keep (next_event m) p s) → KeepsThread h
      → let x : Machine U C = next_event m in
      let g = m.event + 1 in
      let st = level.calls.stepped here.user (seen_on x p s) here.ctx in
      let held : Stopped C = record { ctx = st.ctx; thread = level.calls.thread st.user st.ctx; idle = level.calls.idle st.user st.ctx } in
      let io : IoNo = record { 0 = x.kernel.io_count } in
      let front = early h here.act
      (after_records w g p (event_begun_at w g p (read level w events)) (st.says ++ Block s held.thread here.act io ∷ [])) in
      level.fits w (setting w s.0 here.def) front st.user (put (contexts_of m s.0) here.act.0 (Some st.ctx))
      → IsHalted level w g p n (step_to level.calls p s st x)
      (put_aside p s here.act (Blocked here.act) held (with_io (io_for s here.act page) (g + len) x.kernel)) front
  halted-block w events m p n s len page h composed low unused few here keeps law =
      let e = m.event in
      let g = m.event + 1 in
      let x : Machine U C = next_event m in
      let r = read level w events in
      let c = event_begun_at w g p r in
      let b = begins-now level w events m p composed in
      let tidy = tidy-now level w events m composed in
      let st = level.calls.stepped here.user (seen_on x p s) here.ctx in
      let held : Stopped C = record { ctx = st.ctx; thread = level.calls.thread st.user st.ctx; idle = level.calls.idle st.user st.ctx } in
      let io : IoNo = record { 0 = x.kernel.io_count } in
      let a = here.act in
      let k = x.kernel in
      let y : Machine U C = step_to level.calls p s st x in
      let said = after_records w g p c st.says in
      let block = Block s held.thread a io in
      let blocked = after_record w g p said block in
      let front = early h a (after_records w g p c (st.says ++ block ∷ [])) in
      let both : after_records w g p c (st.says ++ block ∷ []) ≡ blocked = records-append w g p c st.says (block ∷ []) in
      let late : e < x.event = omega arith in
      let own = (step-law level.calls level.stands level.keep e x p s b.rest.standing here late few).own in
      let are = says-users s st.says own in
      let rest = rests-stepped level.calls level.stands level.keep w e g x p s b.rest here late few in
      let there = stepped-at w e g p s x b.rest here st in
      let at = acts-at level w events m p s composed here in
      let over : overview said ≡ overview c = users-records w g p c st.says are in
      let none : copies (Blocked a) k.untold ≡ 0 =
      none-of k b.rest.standing.sound.claimed.told_to (Blocked a) a.0 refl b.rest.standing.sound.claimed.once tidy
      (ap held_of here.runs) in
      let size : length y.contexts ≡ length k.lives = rest.standing.contexts ∙ sym rest.standing.lives in
      let old_size : length x.contexts ≡ length k.lives = b.rest.standing.contexts ∙ sym b.rest.standing.lives in
      let mine_of = mine-of s r p a at.life (contexts_of m s.0) here.ctx at.on in
      let said_of : AreLivesOf s said.lives (running_of said p) =
      subst (λ (o : Option ActNo). AreLivesOf s said.lives o) (sym (ap (λ (v : Overview). get_or v.running p.0 None) over))
      (of-spaces s c.lives said.lives (running_of c p) (λ i. ap (λ (v : Overview). v.spaces i) over) mine_of) in
      let runs_said : running_of said p ≡ Some a = ap (λ (v : Overview). get_or v.running p.0 None) over ∙ at.on.runs in
      let a_of : IsLifeOf s said.lives a = said_of a runs_said in
      let others : (t : SpaceNo) → t.0 ≢ s.0 → SameFor t c front = λ t apart.
      let one = foreign-says w g p s t c st.says own mine_of apart in
      let two = foreign w g p s t said block (refl, a_of, said_of) apart in
      let lives_of : AreLivesOf s blocked.lives (Some a) =
      of-spaces s said.lives blocked.lives (Some a) (λ i. ap (λ z. z i) (block-spaces w g p said s held.thread a io))
      (λ z is. subst (λ (q : ActNo). IsLifeOf s said.lives q) (same_Some a z is) a_of) in
      let all = lives-foreign s t h (Some a) blocked.lives (λ life. (keeps life).0) lives_of apart in
      let three : SameFor t blocked (early h a blocked) =
      record {
        space = refl;
        lives = all;
        running = λ q. runs-alike t blocked.lives (with_life h (Some a) blocked.lives) (running_of blocked q) all;
        taken = refl;
        untold = refl;
        ready = refl;
        lines = λ q runs raised. raised;
      } in
      subst (λ (z : Readings). SameFor t c (early h a z)) (sym both)
      (same-trans t c blocked (early h a blocked) (same-trans t c said blocked one two) three) in
      let runs = runs-at level.calls level.stands level.keep e x p s b.rest.standing here in
      let cs : List (Option C) = slice_set x.contexts p.0 (Some st.ctx) in
      let fit_now : AreFit level.fits w front y.users (contexts_of y) =
      fit-put level w front s.0 x.users st.user (contexts_of x) (contexts_of y)
      (contexts-put_kept k.assign.owners k.lives k.acts x.contexts p.0 a s runs (Some st.ctx))
      (λ d of. subst (λ (z : SpaceView). level.fits w (setting w s.0 z) front st.user (contexts_of y s.0))
      (same_Some here.def d (sym at.def_at ∙ of))
      (subst (λ (z : Contexts C). level.fits w (setting w s.0 here.def) front st.user z)
      (fun_ext (contexts-put k.assign.owners k.lives k.acts x.contexts p.0 a s runs old_size here.within st.ctx)) law))
      (but-same level w c front s.0 x.users (contexts_of x) b.ok (λ t apart. others (space_no t) apart)
      (but-all level w c s.0 x.users (contexts_of x) (fit-begun level w events m p composed (inl low)))) in
      record {
        ok = b.ok;
        workload = b.rest.workload;
        paused = paused-stop level.calls level.stands level.keep g y p s held rest.standing there refl;
        fit = fit-contexts level w front y.users (contexts_of y) _
            (contexts-stop k.assign.owners k.lives k.acts y.contexts p.0 a s
            (runs-at level.calls level.stands level.keep g y p s rest.standing there) size held there.is_ctx) fit_now;
        matched = subst (λ (z : Readings). AreMatched (put k.acts a.0 (holding held (k.acts a.0))) (with_life h (Some a) z.lives))
            (sym both)
            (matched-with h (Some a) (put k.acts a.0 (holding held (k.acts a.0))) blocked.lives keeps
            (matched-aside a held (held_with held.thread) k.acts said.lives (λ life. (refl, refl))
            (matched-records w g p c st.says k.acts (users-leave st.says are) b.matched)));
        untold = ap (λ (z : Readings). z.untold) both
            ∙ ap (λ (us : List (List Note)). slice_set us s.0 (get_or us s.0 [] ++ Blocked a ∷ []))
            (ap (λ (v : Overview). v.untold) over ∙ b.untold);
        apart = apart-noted k.untold s (Blocked a) (λ q. refl) none
            (apart-claimed k b.rest.standing.sound.claimed.told_to b.rest.standing.sound.claimed.once tidy);
        running = ap (λ (z : Readings). z.running) both
            ∙ ap (λ (ls : List (Option ActNo)). slice_set ls p.0 None) (ap (λ (v : Overview). v.running) over ∙ b.running);
        owner = ap (λ (z : Readings). owner_in z p) both
            ∙ ap (λ (os : List (Option SpaceNo)). get_or os p.0 None)
            (owners-if said s held.thread ∙ ap (λ (v : Overview). v.assign.owners) over ∙ b.owners);
        owners = ap (λ (z : Readings). z.state.owners) both ∙ owners-if said s held.thread
            ∙ ap (λ (v : Overview). v.assign.owners) over ∙ b.owners;
        unused = put-other k.acts a.0 n.0 (holding held (k.acts a.0))
            (λ same. none-some (runs_in s) (sym unused ∙ ap k.acts same ∙ here.runs)) ∙ unused;
        sized = sized-lives w (after_records w g p c (st.says ++ block ∷ []))
            (with_life h (Some a) (after_records w g p c (st.says ++ block ∷ [])).lives)
            (sized-records w g p c (st.says ++ block ∷ []) b.sized);
      }
    where
      owners-if : (r : Readings) (s : SpaceNo) (t : Option ThreadNo) → (placed_if r.state s t place.Blocked).owners ≡ r.state.owners
      owners-if r s None = refl
      owners-if r s (Some t) = refl

      block-spaces : (w : WorkloadView) (g : ℕ) (p : ProcNo) (r : Readings) (s : SpaceNo) (t : Option ThreadNo) (a : ActNo) (io : IoNo)
          → spaces_at (after_record w g p r (Block s t a io)).lives ≡ spaces_at r.lives
      block-spaces w g p r s t a io = spaces-with (held_with t) (Some a) r.lives (λ life. refl)
