-- A local instruction of a life as a whole event: what its user level says and does, and what is known after that event, by
-- whichever test of who is in.
use Rattle.std.proofs.Common.{◌≡◌, ◌≢◌, ℕ, ◌+◌, ◌≤◌, ◌<◌, [], ◌∷◌, length, Option, Some, None, slice_index_or, slice_index, option_map, refl, sym, ap, ◌∙◌, subst, inl, inr, arith, length-set}
use Rattle.std.specs.Prelude.{◌↔◌, ◌⊎◌}
use Rattle.std.proofs.lemmas.Bool.{cases_eq}
use Rattle.std.proofs.lemmas.List.{set-set}
use Rattle.std.proofs.lemmas.Option.{same_Some}
use Rattle.std.specs.Int.{bit_at}
use Rattle.sa_base.specs.declared.context.Seen.{Seen}
use Rattle.sa_base.specs.declared.limits.TheConstants.{MAX_EVENTS}
use Rattle.sa_base.specs.declared.number.ActNo.{ActNo}
use Rattle.sa_base.specs.declared.number.ProcNo.{ProcNo}
use Rattle.sa_base.specs.declared.number.SpaceNo.{SpaceNo}
use Rattle.sa_base.specs.declared.number.ThreadNo.{ThreadNo}
use Rattle.sa_base.specs.declared.record.Record.{Record}
use Rattle.sa_base.specs.declared.record.Record.TheVariants as records
use Rattle.sa_lemmas.proofs.FunctionUpdates.{put-same, put-other, put-self}
use Rattle.sa_lemmas.specs.Function.{put}
use Rattle.sa_instr.specs.Local.{pc_after, regs_after, local_answer}
use Rattle.sa_instr.specs.declared.answer.Local.TheVariants.{Went}
use Rattle.sa_instr.specs.declared.instr.Instr.{Instr}
use Rattle.sa_instr.specs.declared.instr.Instr.TheVariants.{Compute, Set, Add, Sub, Jnz}
use Rattle.sa_spaces.specs.Workload.{WorkloadView}
use Rattle.sa_devices.proofs.SoundLemmas.{length-evicted}
use Rattle.sa_fast.specs.Instruction.{instr_of, outcome_of, says_of, with_thread, run}
use Rattle.sa_fast.specs.Threads.{block_at, gone_to}
use Rattle.sa_fast.specs.declared.instruction.Ran.TheVariants as rans
use Rattle.sa_fast.specs.declared.threads.Block.{Block}
use Rattle.sa_abstract.specs.Calls.{Contexts, Stepped}
use Rattle.sa_abstract.specs.Setting.{Setting}
use Rattle.sa_package_model.specs.Rules.{pair, did, used_by, with_shared}
use Rattle.sa_package_model.specs.Stands.{IsStanding}
use Rattle.sa_package_model.specs.Step.{stepped}
use Rattle.sa_package_model.specs.declared.context.Context.{Context}
use Rattle.sa_package_model.specs.declared.context.ContextState.TheVariants.{User}
use Rattle.sa_package_model.specs.declared.package.Package.{Package}
use Rattle.sa_laws.specs.Effect.{Effect, effect_of, local_effect}
use Rattle.sa_laws.specs.Event.{Event}
use Rattle.sa_laws.specs.History.{Test, after_records, after_event, is_inside, stepped as ends}
use Rattle.sa_laws.specs.Life.{with_hand, Life}
use Rattle.sa_laws.specs.Machine.{next_effect}
use Rattle.sa_laws.specs.Readings.{Readings, running_of, life_of, owner_of}
use Rattle.sa_laws.specs.Record.{after_record, with_life}
use Rattle.sa_laws.specs.State.{SpaceState, Thread, space_at, thread_at, thread_in, with_thread as law_thread, instr_of as law_instr}
use Rattle.sa_user_laws.proofs.Runners.{own-elsewhere, runner-behind}
use Rattle.sa_user_laws.specs.Moments.{IsMoment, Alike, HasLifeOn, Sees}
use Rattle.sa_user_laws.specs.Scene.{event_begun_at}
use Rattle.sa_user_laws.specs.Steps.{event_with}
use Rattle.sa_fast_laws.proofs.relation.EventEnds.{ended-lives, ended-holds}
use Rattle.sa_fast_laws.proofs.relation.Places.{space-here, thread-here, thread-there}
use Rattle.sa_fast_laws.proofs.relation.Runners.{alone-runs}
use Rattle.sa_fast_laws.specs.FastFits.{Holds}
use Rattle.sa_fast_laws.specs.Life.{IsMarked}
use Rattle.sa_fast_laws.specs.View.{view}
use Rattle.sa_fast_laws.proofs.steps.Moves.{move-holds, move-behind}
use Rattle.sa_fast_laws.proofs.steps.Scenes.{IsScene, IsOwnMarked}
use Rattle.sa_fast_laws.proofs.steps.Scenes as scene
use Rattle.sa_fast_laws.proofs.user_steps.UserMoves.{IsCalm, goes-move, instr_is, thread_fits, t_made}

-- what a local instruction does is the same on both sides
effect-is : (x : SpaceState) (t : ThreadNo) (z : Thread) (k : Instr) → local_answer k ≡ Went → effect_of x t z k ≡ local_effect x t z k
effect-is x t z Compute went = refl
effect-is x t z (Set reg n) went = refl
effect-is x t z (Add reg other) went = refl
effect-is x t z (Sub reg other) went = refl
effect-is x t z (Jnz reg target) went = refl
effect-is x t z _ went = absurd cc

module _ (u : Package) (seen : Seen) (t : ThreadNo) where
  abbrev b : Block
  b = block_at u.shared.threads t.0

  abbrev c : Context
  c = record { state = User t; sections = []; work = None }

  -- the package after an instruction
  abbrev pub behind : Instr → Package
  behind k =
      with_shared u
      (with_thread u.shared t
      (gone_to (block_at u.shared.threads t.0) (pc_after k (block_at u.shared.threads t.0).pc (block_at u.shared.threads t.0).regs)
      (regs_after k (block_at u.shared.threads t.0).regs)))

  pub record IsLocalStep (k : Instr) : Type 0 where
    pub step : (let o = outcome_of u.fetch seen.pages u.shared None t b k in
        used_by (with_shared u o.shared) seen (record { state = User t; sections = []; work = o.work }) t o.answer
        (says_of u.shared.state.space t b seen.pages k))
        ≡ did (pair (behind k) c) (records.Ins u.shared.state.space t b.pc ∷ [])
    pub goes : (outcome_of u.fetch seen.pages u.shared None t b k).answer ≡ rans.Goes

  pub local-step : (k : Instr) → local_answer k ≡ Went → IsLocalStep k
  local-step Compute went = record { step = refl; goes = refl }
  local-step (Set reg n) went = record { step = refl; goes = refl }
  local-step (Add reg other) went = record { step = refl; goes = refl }
  local-step (Sub reg other) went = record { step = refl; goes = refl }
  local-step (Jnz reg target) went = record { step = refl; goes = refl }
  local-step _ went = absurd cc

-- the lives but one
with-life-there : (f : Life → Life) (o : Option ActNo) (a : ActNo) (lives : ℕ → Option Life) (y : ℕ) → o ≡ Some a → y ≢ a.0
    → with_life f o lives y ≡ lives y
with-life-there f o a lives y at apart = ap (λ n. with_life f n lives y) at ∙ put-other lives a.0 y (option_map f (lives a.0)) apart

-- what is known after the records of the event, where this is the step
pub record IsLocalBehind (set : Setting) (cs : Contexts Context) (w : WorkloadView) (r : Readings) (p : ProcNo) (a : ActNo) (n : ℕ) (x : Record)
    (st : Stepped Package Context) : Type 0 where
  pub holds : Holds set.space (after_records w n p (event_begun_at w n p r) st.says) st.user (put cs a.0 (Some st.ctx))
  pub its : Life
  pub there : life_of (after_records w n p (event_begun_at w n p r) st.says) a ≡ Some its
  pub marks : (ev : Event) (last : Readings) → Alike (after_records w n p (event_begun_at w n p r) st.says) last
      → IsMarked (view st.ctx) (ends is_inside w r ev last x its)

module _ (set : Setting) (e : ℕ) (u : Package) (cs : Contexts Context) (w : WorkloadView) (r : Readings) (p : ProcNo) (a : ActNo) (life : Life)
    (seen : Seen) (t : ThreadNo)
    (i : IsScene set e u cs w r p a life (record { state = User t; sections = []; work = None }) seen)
    (local : local_answer (instr_of u.def (block_at u.shared.threads t.0)) ≡ Went) where
  abbrev c0 : Context
  c0 = record { state = User t; sections = []; work = None }

  abbrev j : Instr
  j = instr_of u.def (block_at u.shared.threads t.0)

  abbrev x : Record
  x = records.Ins set.space t (block_at u.shared.threads t.0).pc

  abbrev v : Package
  v = behind u seen t (instr_of u.def (block_at u.shared.threads t.0))

  abbrev q : Readings
  q = after_record w seen.event p (event_begun_at w seen.event p r) (records.Ins set.space t (block_at u.shared.threads t.0).pc)

  space : u.shared.state.space ≡ set.space
  space = scene.space set e u cs w r p a life c0 seen i

  pub local-goes : (run u.def u.fetch seen.pages u.shared None t).answer ≡ rans.Goes
  local-goes = (local-step u seen t j local).goes

  pub local-is : stepped u seen c0 ≡ did (pair v c0) (x ∷ [])
  local-is = (local-step u seen t j local).step ∙ ap (λ z. did (pair v c0) (records.Ins z t (block_at u.shared.threads t.0).pc ∷ [])) space

  pub local-behind : IsLocalBehind set cs w r p a seen.event x (did (pair v c0) (x ∷ []))
  local-behind =
      let m = goes-move set e u cs w r p a life seen t i (subst IsCalm (sym local-goes) tt) local-goes in
      subst (IsLocalBehind set cs w r p a seen.event x) (sym m.step ∙ local-is) (record {
        holds = move-holds set e u cs w r p a life c0 seen i m;
        its = m.held.life;
        there = ap (λ (f : ℕ → Option Life). f a.0) m.held.lives ∙ put-same r.lives a.0 (Some m.held.life);
        marks = λ ev last same. m.marks ev last (move-behind set e u cs w r p a life c0 seen i m last same);
      })

  put-c : put cs a.0 (Some c0) ≡ cs
  put-c = ap (put cs a.0) (sym i.on.mine) ∙ put-self cs a.0

  pub local-stands : IsStanding set seen.event v cs
  local-stands = subst (IsStanding set seen.event v) put-c
      (subst (λ (y : Stepped Package Context). IsStanding set seen.event y.user (put cs a.0 (Some y.ctx))) local-is
      (scene.steps set e u cs w r p a life c0 seen i).value)

  instr : law_instr w r.state set.space t (block_at u.shared.threads t.0).pc ≡ j
  instr = instr_is set e u cs w r p a life seen t i

  known : set.space.0 < length r.state.spaces
  known = scene.known set e u cs w r p a life c0 seen i

  abbrev z : Thread
  z = thread_at r.state set.space t

  abbrev now : Thread
  now = record z { pc = pc_after j z.pc z.regs; regs = regs_after j z.regs }

  space-is : space_at q.state set.space ≡ law_thread (space_at r.state set.space) t now
  space-is =
      space-here r.state set.space (next_effect w r.state set.space t).space known
      ∙ ap (λ (f : Effect). f.space) (ap (effect_of (space_at r.state set.space) t z)
      (ap (law_instr w r.state set.space t) (thread_fits set e u cs w r p a life seen t i).pc ∙ instr) ∙ effect-is (space_at r.state set.space) t z j local)

  inside : t.0 < length (space_at r.state set.space).threads
  inside = let made = t_made set e u cs w r p a life seen t i in let all = i.holds.space.made in omega arith

  -- no thread is elsewhere
  place-same : (o : SpaceNo) (n : ThreadNo) → (thread_at q.state o n).place ≡ (thread_at r.state o n).place
  place-same o n = elim (cases_eq o.0 set.space.0) [
    | inr apart ↦ ap (λ y. (thread_in y n).place) (own-elsewhere w p r.state set.space o x refl apart)
    | inl same ↦
        let one : o ≡ set.space = ap (λ m. record { 0 = m }) same in
        ap (λ y. (thread_at q.state y n).place) one ∙ ap (λ y. (thread_in y n).place) space-is ∙ here n (cases_eq n.0 t.0)
        ∙ sym (ap (λ y. (thread_at r.state y n).place) one)
  ] where
    here : (n : ThreadNo) → (n.0 ≡ t.0) ⊎ (n.0 ≢ t.0)
        → (thread_in (law_thread (space_at r.state set.space) t now) n).place ≡ (thread_at r.state set.space n).place
    here n (inl same) =
        let one : n ≡ t = ap (λ m. record { 0 = m }) same in
        ap (λ y. (thread_in (law_thread (space_at r.state set.space) t now) y).place) one
        ∙ ap (λ (y : Thread). y.place) (thread-here (space_at r.state set.space) t now inside)
        ∙ sym (ap (λ y. (thread_at r.state set.space y).place) one)
    here n (inr apart) = ap (λ (y : Thread). y.place) (thread-there (space_at r.state set.space) t n now apart)

  -- AFTER THE EVENT, where no slice ends with it
  module _ (test : Test) where
    abbrev r1 : Readings
    r1 = after_event test w r (event_with seen.event p (records.Ins set.space t (block_at u.shared.threads t.0).pc ∷ []) [])

    abbrev ev : Event
    ev = event_with seen.event p (x ∷ []) []

    abbrev pub its1 : Life
    its1 = ends test w r ev q x local-behind.its

    lives1 : r1.lives ≡ put q.lives a.0 (Some its1)
    lives1 = ended-lives a w r ev i.on.runs q local-behind.its local-behind.there x [] refl refl refl test

    pub its1-is : life_of r1 a ≡ Some its1
    its1-is = ap (λ (f : ℕ → Option Life). f a.0) lives1 ∙ put-same q.lives a.0 (Some its1)

    pub holds1 : Holds set.space r1 v cs
    holds1 = subst (Holds set.space r1 v) put-c
        (ended-holds a w r ev i.on.runs q local-behind.its local-behind.there x [] refl refl refl test set.space v (put cs a.0 (Some c0)) c0 local-behind.holds
        (put-same cs a.0 (Some c0)))

    of1 : its1.space ≡ set.space
    of1 =
        let its = holds1.lives a c0 i.on.mine in
        ap (λ (l : Life). l.space) (sym (same_Some its.0 its1 (sym its.1 ∙ its1-is))) ∙ its.2.space

    -- other lives stay
    lives-there : (y : ℕ) → y ≢ a.0 → r1.lives y ≡ r.lives y
    lives-there y apart =
        ap (λ (f : ℕ → Option Life). f y) lives1 ∙ put-other q.lives a.0 y (Some its1) apart
        ∙ with-life-there (with_hand (next_effect w r.state set.space t).roused) (running_of r p) a r.lives y i.on.runs apart

    moment1 : IsMoment r1
    moment1 = record {
      lives = λ y b at. elim (cases_eq b.0 a.0) [
        | inl same ↦
            let one : b ≡ a = ap (λ m. record { 0 = m }) same in
            let at_a : running_of r y ≡ Some a = at ∙ ap Some one in
            let here : y ≡ p = i.moment.apart y p a at_a i.on.runs in (
              its1,
              ap r1.lives same ∙ its1-is,
              (holds1.runs y a its1 at_a its1-is of1).1,
              ap (owner_of r) here ∙ i.on.owner ∙ ap Some (sym of1),
            )
        | inr apart ↦ let old = i.moment.lives y b at in (old.0, lives-there b.0 apart ∙ old.1, old.2, old.3)
      ];
      apart = i.moment.apart;
      owned = λ y o n at. i.moment.owned y o n (sym (place-same o n) ∙ at);
      alone = λ y o n m one two. i.moment.alone y o n m (sym (place-same o n) ∙ one) (sym (place-same o m) ∙ two);
    }

    -- the marks of its life, but whether it is in
    own1 : IsOwnMarked c0 its1
    own1 =
        let marks = local-behind.marks ev q
        (record {
          kernel = record { state = refl; lives = refl; running = refl; taken = refl; untold = refl; ready = refl; lines = λ y some. some };
          demands = refl;
        }) in
        record { back = marks.back; scans = marks.scans; left = marks.left; lone = marks.lone }

    -- what is seen in the next event
    abbrev pub seen1 : Seen
    seen1 = record seen { event = seen.event + 1; pages = slice_index (event_begun_at w (seen.event + 1) p r1).pages set.space.0 }

    sees1 : Sees set.space (event_begun_at w (seen.event + 1) p r1) p (seen.event + 1) seen1
    sees1 = record {
      proc = i.sees.proc;
      event = refl;
      demand = i.sees.demand;
      pages = refl;
      taken = i.sees.taken;
      low =
          λ y. subst (λ ls. (bit_at seen.low y.0 ≡ 1) ↔ ((owner_of r y ≡ Some set.space) × (slice_index_or ls y.0 None ≡ None)))
          (sym (set-set r.lines p.0 None None)) (i.sees.low y);
      lives = λ y owner. by (i.sees.lives y owner);
    } where
      by : {y : ProcNo} → HasLifeOn set.space (event_begun_at w seen.event p r) y → HasLifeOn set.space (event_begun_at w (seen.event + 1) p r1) y
      by l = elim (cases_eq l.act.0 a.0) [
        | inl same ↦ record { act = l.act; life = its1; runs = l.runs; is = ap r1.lives same ∙ its1-is; space = of1 }
        | inr apart ↦ record { act = l.act; life = l.life; runs = l.runs; is = lives-there l.act.0 apart ∙ l.is; space = l.space }
      ]

    pub local-scene : seen.event + 1 ≤ MAX_EVENTS → IsScene set seen.event v cs w r1 p a its1 c0 seen1
    local-scene within = record {
      of = i.of;
      moment = moment1;
      sizes = record {
        spaces = length-set r.state.spaces set.space.0 (next_effect w r.state set.space t).space ∙ i.sizes.spaces;
        ready = i.sizes.ready;
        untold = i.sizes.untold;
        taken = i.sizes.taken;
        demands = i.sizes.demands;
        pages = length-evicted seen.event w.evictions r.pages ∙ i.sizes.pages;
        running = i.sizes.running;
        lines = length-set r.lines p.0 None ∙ i.sizes.lines;
      };
      stands = local-stands;
      holds = holds1;
      own = own1;
      on = record { runs = i.on.runs; is = its1-is; space = of1; proc = (holds1.runs p a its1 i.on.runs its1-is of1).1; owner = i.on.owner; mine = i.on.mine };
      runner = runner-behind set.space r1 r1 p (Some t) moment1 i.on.owner (λ o apart. refl)
          (alone-runs set seen.event v cs local-stands set.space r1 holds1 p a c0 its1 i.on.mine its1-is of1 i.on.runs);
      sees = sees1;
      given = i.given;
      later = omega arith;
      within = within;
    }
