-- The law of local instructions: each is a legal event of its own, and after the last one all fits.
use Rattle.std.proofs.Common.{◌≡◌, ◌≢◌, ℕ, zero, suc, ◌+◌, ◌≤◌, ◌<◌, Bool, true, false, List, [], ◌∷◌, length-set, replicate, slice_index, slice_index_or, is_some, Option, Some, None, refl, sym, ap, ◌∙◌, subst, inl, inr, arith}
use Rattle.std.specs.Prelude.{◌↔◌}
use Rattle.std.specs.Int.{bit_at}
use Rattle.std.proofs.lemmas.Bool.{cases_eq}
use Rattle.std.proofs.lemmas.List.{set-set, get_or-set_same}
use Rattle.std.proofs.lemmas.Option.{same_Some}
use Rattle.sa_base.specs.declared.context.Seen.{Seen}
use Rattle.sa_base.specs.declared.limits.TheConstants.{MAX_EVENTS, MAX_THREADS}
use Rattle.sa_base.specs.declared.number.ActNo.{ActNo}
use Rattle.sa_base.specs.declared.number.ProcNo.{ProcNo}
use Rattle.sa_base.specs.declared.number.SpaceNo.{SpaceNo}
use Rattle.sa_base.specs.declared.number.ThreadNo.{ThreadNo}
use Rattle.sa_base.specs.declared.record.Record.{Record}
use Rattle.sa_base.specs.declared.record.Record.TheVariants as records
use Rattle.sa_lemmas.proofs.FunctionUpdates.{put-same, put-other, put-self}
use Rattle.sa_lemmas.specs.Function.{put}
use Rattle.sa_instr.specs.Local.{pc_after, regs_after, local_answer}
use Rattle.sa_instr.specs.declared.answer.Local.TheVariants.{Went}
use Rattle.sa_instr.specs.declared.instr.Instr.{Instr}
use Rattle.sa_instr.specs.declared.instr.Instr.TheVariants.{Compute, Set, Add, Sub, Jnz}
use Rattle.sa_spaces.specs.Workload.{WorkloadView}
use Rattle.sa_devices.proofs.SoundLemmas.{length-evicted}
use Rattle.sa_fast.specs.Instruction.{instr_of, run, outcome_of, says_of, with_thread}
use Rattle.sa_fast.specs.Threads.{unmade, block_at, gone_to}
use Rattle.sa_fast.specs.Work.{work_of}
use Rattle.sa_fast.specs.declared.threads.Block.{Block}
use Rattle.sa_abstract.specs.Calls.{Contexts, Stepped}
use Rattle.sa_abstract.specs.Keeps.{StaysLocal, IsStepped}
use Rattle.sa_abstract.specs.Setting.{Setting}
use Rattle.sa_abstract.specs.Walk.{program_at, after_one, AreLocal, ins_records}
use Rattle.sa_abstract.specs.declared.answer.Step.TheVariants as asked
use Rattle.sa_package_model.specs.Rules.{with_shared}
use Rattle.sa_package_model.specs.Step.{spot_of, block_after}
use Rattle.sa_driven_model.specs.declared.context.DrivenContext.{DrivenContext}
use Rattle.sa_driven_model.specs.declared.reply.Reply.TheVariants as reply
use Rattle.sa_driven_model.specs.declared.space.DrivenSpace.{DrivenSpace}
use Rattle.sa_driven_model.specs.Stands.{IsStanding, driven_stands}
use Rattle.sa_driven_model.specs.Step.{asks_for, with_package, after_run, is_within_thread, ran, ran_by, local_at, went_at, driven_calls}
use Rattle.sa_driven_model.specs.Threads.{with_all}
use Rattle.sa_laws.specs.Any.{any, is_inside_any}
use Rattle.sa_laws.specs.Event.{Event}
use Rattle.sa_laws.specs.History.{after_event, stepped as ends}
use Rattle.sa_laws.specs.Life.{Life, with_hand}
use Rattle.sa_laws.specs.Machine.{next_effect}
use Rattle.sa_laws.specs.Readings.{Readings, running_of, life_of, owner_of, line_of}
use Rattle.sa_laws.specs.Record.{after_record}
use Rattle.sa_laws.specs.State.{Thread, thread_in, thread_at}
use Rattle.sa_user_laws.proofs.Runners.{own-elsewhere, runner-behind}
use Rattle.sa_user_laws.specs.Moments.{IsMoment, HasLifeOn, Sees}
use Rattle.sa_user_laws.specs.Scene.{IsActing, event_begun_at}
use Rattle.sa_user_laws.specs.Steps.{IsLegalIns, AreLegalIns, event_with}
use Rattle.sa_fast_laws.proofs.relation.Places.{life-changed}
use Rattle.sa_driven_laws.specs.DrivenFits.{DrivenFits, driven_fits}
use Rattle.sa_driven_laws.proofs.InsSteps.{instr-before, t_inside}
use Rattle.sa_driven_laws.proofs.Moves.{IsLegal}
use Rattle.sa_driven_laws.proofs.ReplySteps.{well-of}
use Rattle.sa_driven_laws.proofs.Runners.{runs-carried, runs-alone, alone-runs}
use Rattle.sa_driven_laws.proofs.Scenes.{IsScene}
use Rattle.sa_driven_laws.proofs.Scenes as scene
use Rattle.sa_driven_laws.proofs.Steps.{the-scene, ins-legal}
use Rattle.sa_driven_laws.proofs.Turned.{ended-lives}

-- WHAT IT DOES
module _ (u : DrivenSpace) (seen : Seen) (c : DrivenContext) (t : ThreadNo) where
  abbrev b : Block
  b = block_at u.base.shared.threads t.0

  abbrev pub gone : Instr → Block
  gone k = gone_to (block_at u.base.shared.threads t.0) (pc_after k (block_at u.base.shared.threads t.0).pc (block_at u.base.shared.threads t.0).regs)
      (regs_after k (block_at u.base.shared.threads t.0).regs)

  -- the value after it
  abbrev pub behind : Instr → DrivenSpace
  behind k = with_package u (with_shared u.base (with_thread u.base.shared t (gone k)))

  abbrev with_works : Instr → List (List ℕ) → DrivenSpace
  with_works k ws = with_package u (with_shared u.base (record (with_thread u.base.shared t (gone k)) { works = ws }))

  abbrev does : Instr → Stepped DrivenSpace DrivenContext
  does k =
      let z = outcome_of u.base.fetch seen.pages u.base.shared None t b k in
      ran_by (after_run u z) seen (record c { hand = with_all c.hand (work_of z.shared.works z.work) }) (is_within_thread (local_answer k)) z.answer
      (says_of u.base.shared.state.space t b seen.pages k)

  local-does : (k : Instr) → local_answer k ≡ Went
      → does k ≡ asks_for (with_works k (replicate MAX_THREADS [])) c (records.Ins u.base.shared.state.space t b.pc ∷ []) asked.Did
  local-does Compute went = refl
  local-does (Set reg n) went = refl
  local-does (Add reg other) went = refl
  local-does (Sub reg other) went = refl
  local-does (Jnz reg target) went = refl
  local-does _ went = absurd cc

-- ONE INSTRUCTION
module _ (set : Setting) (e : ℕ) (u : DrivenSpace) (cs : Contexts DrivenContext) (w : WorkloadView) (r : Readings) (p : ProcNo) (a : ActNo) (life : Life)
    (c : DrivenContext) (seen : Seen) (t : ThreadNo) (i : IsScene set e u cs w r p a life c seen) (own : c.thread ≡ Some t)
    (local : local_answer (instr_of u.base.def (block_at u.base.shared.threads t.0)) ≡ Went) where
  abbrev j : Instr
  j = instr_of u.base.def (block_at u.base.shared.threads t.0)

  abbrev x : Record
  x = records.Ins set.space t (block_at u.base.shared.threads t.0).pc

  abbrev v : DrivenSpace
  v = behind u seen c t (instr_of u.base.def (block_at u.base.shared.threads t.0))

  does-is : ran u seen c (Some t) ≡ asks_for v c (x ∷ []) asked.Did
  does-is =
      local-does u seen c t j local
      ∙ ap (λ ws. asks_for (with_works u seen c t j ws) c (records.Ins u.base.shared.state.space t (block_at u.base.shared.threads t.0).pc ∷ []) asked.Did)
      (sym i.stands.unused.works)
      ∙ ap (λ s. asks_for v c (records.Ins s t (block_at u.base.shared.threads t.0).pc ∷ []) asked.Did) (scene.space set e u cs w r p a life c seen i)

  well : IsStepped driven_stands set seen cs a.0 (ran u seen c (Some t))
  well = subst (λ y. IsStepped driven_stands set seen cs a.0 (ran u seen c y)) own
      (well-of set e u cs w r p a life c seen i reply.Ins (ap (λ y. is_some y) own))

  pub legal : IsLegal w set r p seen.event a cs (asks_for v c (x ∷ []) asked.Did)
  legal = subst (IsLegal w set r p seen.event a cs) does-is
      (ins-legal set e u cs w r p a life c seen i t own (run u.base.def u.base.fetch seen.pages u.base.shared None t).answer refl well)

  pub legal-ins : IsLegalIns any w seen.event p r x
  legal-ins = record {
    needs = legal.steps.0;
    is_local = ap local_answer (instr-before set e u cs w r p a life c seen i t own) ∙ local;
    rules_hold = λ closing closed. legal.answer.rules_hold closing closed;
  }

  -- THE NEXT SCENE, where no slice ends with its event
  abbrev pub r1 : Readings
  r1 = after_event is_inside_any w r (event_with seen.event p (records.Ins set.space t (block_at u.base.shared.threads t.0).pc ∷ []) [])

  abbrev q : Readings
  q = after_record w seen.event p (event_begun_at w seen.event p r) (records.Ins set.space t (block_at u.base.shared.threads t.0).pc)

  put-c : put cs a.0 (Some c) ≡ cs
  put-c = ap (put cs a.0) (sym i.on.mine) ∙ put-self cs a.0

  fits1 : DrivenFits set.space r1 v.base.shared cs
  fits1 = subst (DrivenFits set.space r1 v.base.shared) put-c (legal.answer.after [] (record { closes = tt; is_own = refl })
      (record {
        kernel = record { state = refl; lives = refl; running = refl; taken = refl; untold = refl; ready = refl; lines = λ y some. some };
        demands = refl;
      }))

  stands1 : IsStanding set seen.event v cs
  stands1 = subst (IsStanding set seen.event v) put-c
      (subst (λ (y : Stepped DrivenSpace DrivenContext). IsStanding set seen.event y.user (put cs a.0 (Some y.ctx))) does-is well.value)

  abbrev ev : Event
  ev = event_with seen.event p (x ∷ []) []

  abbrev now : Life
  now = with_hand (next_effect w r.state set.space t).roused life

  q-lives : q.lives ≡ put r.lives a.0 (Some now)
  q-lives = life-changed (with_hand (next_effect w r.state set.space t).roused) (event_begun_at w seen.event p r) p a life i.on.runs i.on.is

  q-there : life_of q a ≡ Some now
  q-there = ap (λ (f : ℕ → Option Life). f a.0) q-lives ∙ put-same r.lives a.0 (Some now)

  abbrev pub its1 : Life
  its1 = ends is_inside_any w r (event_with seen.event p (records.Ins set.space t (block_at u.base.shared.threads t.0).pc ∷ []) []) q
      (records.Ins set.space t (block_at u.base.shared.threads t.0).pc) (with_hand (next_effect w r.state set.space t).roused life)

  lives1 : r1.lives ≡ put q.lives a.0 (Some its1)
  lives1 = ended-lives a w r ev i.on.runs q now q-there x [] refl refl is_inside_any refl

  its1-is : life_of r1 a ≡ Some its1
  its1-is = ap (λ (f : ℕ → Option Life). f a.0) lives1 ∙ put-same q.lives a.0 (Some its1)

  lives-there : (y : ℕ) → y ≢ a.0 → r1.lives y ≡ r.lives y
  lives-there y apart =
      ap (λ (f : ℕ → Option Life). f y) lives1 ∙ put-other q.lives a.0 y (Some its1) apart
      ∙ ap (λ (f : ℕ → Option Life). f y) q-lives ∙ put-other r.lives a.0 y (Some now) apart

  elsewhere : (o : SpaceNo) (n : ThreadNo) → o.0 ≢ set.space.0 → thread_at r1.state o n ≡ thread_at r.state o n
  elsewhere o n ne = ap (λ y. thread_in y n) (own-elsewhere w p r.state set.space o x refl ne)

  -- a running life of the space has its processor
  owner-of : (y : ProcNo) (act : ActNo) (l : Life) → running_of r y ≡ Some act → life_of r1 act ≡ Some l → l.space ≡ set.space
      → owner_of r y ≡ Some set.space
  owner-of y act l runs is of = let old = i.moment.lives y act runs in elim (cases_eq act.0 a.0) [
    | inl same ↦
        let one : old.0 ≡ life = same_Some old.0 life (sym old.1 ∙ ap r.lives same ∙ i.on.is) in
        old.3 ∙ ap (λ (z : Life). Some z.space) one ∙ ap Some i.on.space
    | inr ne ↦
        let one : old.0 ≡ l = same_Some old.0 l (sym old.1 ∙ sym (lives-there act.0 ne) ∙ is) in
        old.3 ∙ ap (λ (z : Life). Some z.space) one ∙ ap Some of
  ]

  moment1 : IsMoment r1
  moment1 = record {
    lives = λ y k at. elim (cases_eq k.0 a.0) [
      | inl same ↦
          let one : k ≡ a = ap (λ m. record { 0 = m }) same in
          let at_a : running_of r y ≡ Some a = at ∙ ap Some one in (
            its1,
            ap r1.lives same ∙ its1-is,
            (fits1.holds.runs y a its1 at_a its1-is i.on.space).1,
            owner-of y a its1 at_a its1-is i.on.space ∙ ap Some (sym i.on.space),
          )
      | inr apart ↦ let old = i.moment.lives y k at in (old.0, lives-there k.0 apart ∙ old.1, old.2, old.3)
    ];
    apart = i.moment.apart;
    owned = λ y o n at. elim (cases_eq o.0 set.space.0) [
      | inl same ↦
          let one : o ≡ set.space = ap (λ m. record { 0 = m }) same in
          let runs = runs-carried set seen.event v cs stands1 set.space r1 fits1.holds n y (ap (λ z. (thread_at r1.state z n).place) (sym one) ∙ at) in
          owner-of y runs.act runs.life runs.runs runs.is runs.space ∙ ap Some (sym one)
      | inr ne ↦ i.moment.owned y o n (ap (λ (z : Thread). z.place) (sym (elsewhere o n ne)) ∙ at)
    ];
    alone = λ y o n m one two. elim (cases_eq o.0 set.space.0) [
      | inl same ↦
          let is : o ≡ set.space = ap (λ m. record { 0 = m }) same in
          runs-alone set seen.event v cs stands1 set.space r1 fits1.holds n m y
          (ap (λ z. (thread_at r1.state z n).place) (sym is) ∙ one) (ap (λ z. (thread_at r1.state z m).place) (sym is) ∙ two)
      | inr ne ↦
          i.moment.alone y o n m (ap (λ (z : Thread). z.place) (sym (elsewhere o n ne)) ∙ one) (ap (λ (z : Thread). z.place) (sym (elsewhere o m ne)) ∙ two)
    ];
  }

  -- what is seen in the next event
  abbrev pub seen1 : Seen
  seen1 = record seen { event = seen.event + 1; pages = slice_index (event_begun_at w (seen.event + 1) p r1).pages set.space.0 }

  sees1 : Sees set.space (event_begun_at w (seen.event + 1) p r1) p (seen.event + 1) seen1
  sees1 = record {
    proc = i.sees.proc;
    event = refl;
    demand = i.sees.demand;
    pages = refl;
    taken = i.sees.taken;
    low =
        λ y. subst (λ ls. (bit_at seen.low y.0 ≡ 1) ↔ ((owner_of r y ≡ Some set.space) × (slice_index_or ls y.0 None ≡ None)))
        (sym (set-set r.lines p.0 None None)) (i.sees.low y);
    lives = λ y owner. by (i.sees.lives y owner);
  } where
    by : {y : ProcNo} → HasLifeOn set.space (event_begun_at w seen.event p r) y → HasLifeOn set.space (event_begun_at w (seen.event + 1) p r1) y
    by l = elim (cases_eq l.act.0 a.0) [
      | inl same ↦ record { act = l.act; life = its1; runs = l.runs; is = ap r1.lives same ∙ its1-is; space = i.on.space }
      | inr apart ↦ record { act = l.act; life = l.life; runs = l.runs; is = lives-there l.act.0 apart ∙ l.is; space = l.space }
    ]

  pub scene1 : seen.event + 1 ≤ MAX_EVENTS → IsScene set seen.event v cs w r1 p a its1 c seen1
  scene1 within = record {
    of = i.of;
    moment = moment1;
    sizes = record {
      spaces = length-set r.state.spaces set.space.0 (next_effect w r.state set.space t).space ∙ i.sizes.spaces;
      ready = i.sizes.ready;
      untold = i.sizes.untold;
      taken = i.sizes.taken;
      demands = i.sizes.demands;
      pages = length-evicted seen.event w.evictions r.pages ∙ i.sizes.pages;
      running = i.sizes.running;
      lines = length-set r.lines p.0 None ∙ i.sizes.lines;
    };
    stands = stands1;
    fits = fits1;
    on = record { runs = i.on.runs; is = its1-is; space = i.on.space; proc = i.on.proc; owner = i.on.owner; mine = i.on.mine };
    runner = runner-behind set.space r1 r1 p c.thread moment1 i.on.owner (λ o apart. refl)
        (alone-runs set seen.event v cs stands1 set.space r1 fits1.holds p a c its1 i.on.mine its1-is i.on.space i.on.runs);
    sees = sees1;
    given = i.given;
    later = omega arith;
    within = within;
  }

-- A RUN of instructions
module _ (set : Setting) (cs : Contexts DrivenContext) (w : WorkloadView) (p : ProcNo) (a : ActNo) (c : DrivenContext) (t : ThreadNo)
    (own : c.thread ≡ Some t) where
  -- n instructions from block b on, in events from number e on
  abbrev IsRun : ℕ → DrivenSpace → Readings → ℕ → Block → Type 0
  IsRun n u r e b = AreLegalIns any w e p r (ins_records set.space t (program_at u.base.def.programs b.program) n (spot_of b))
      (λ last. DrivenFits set.space last (with_thread u.base.shared t (block_after (program_at u.base.def.programs b.program) n b)) (put cs a.0 (Some c)))

  runs : (m e : ℕ) (u : DrivenSpace) (r : Readings) (life : Life) (seen : Seen)
      → IsScene set e u cs w r p a life c seen → seen.event + m ≤ MAX_EVENTS
      → AreLocal (program_at u.base.def.programs (block_at u.base.shared.threads t.0).program) (suc m) (spot_of (block_at u.base.shared.threads t.0))
      → IsRun (suc m) u r seen.event (block_at u.base.shared.threads t.0)
  runs zero e u r life seen i within local = (
    legal-ins set e u cs w r p a life c seen t i own local.0,
    λ closing closed alike. (legal set e u cs w r p a life c seen t i own local.0).answer.after closing closed alike,
  )
  runs (suc m) e u r life seen i within local =
      let b = block_at u.base.shared.threads t.0 in
      let program = program_at u.base.def.programs b.program in
      let v = behind u seen c t (instr_of u.base.def b) in
      let b1 = gone_to b (pc_after (instr_of u.base.def b) b.pc b.regs) (regs_after (instr_of u.base.def b) b.regs) in
      let next = r1 set e u cs w r p a life c seen t i own local.0 in
      let there : block_at v.base.shared.threads t.0 ≡ b1 =
      get_or-set_same u.base.shared.threads t.0 b1 unmade (t_inside set e u cs w r p a life c seen i t own) in
      let rest = runs m seen.event v next (its1 set e u cs w r p a life c seen t i own local.0)
      (seen1 set e u cs w r p a life c seen t i own local.0)
      (scene1 set e u cs w r p a life c seen t i own local.0 (omega (arith, within))) (omega (arith, within))
      (subst (λ y. AreLocal (program_at u.base.def.programs y.program) (suc m) (spot_of y)) (sym there) local.1) in (
        legal-ins set e u cs w r p a life c seen t i own local.0,
        subst (λ ys. AreLegalIns any w (seen.event + 1) p next (ins_records set.space t program (suc m) (after_one program (spot_of b)))
            (λ last. DrivenFits set.space last (record u.base.shared { threads = ys }) (put cs a.0 (Some c))))
            (set-set u.base.shared.threads t.0 b1 (block_after program (suc (suc m)) b)) (subst (IsRun (suc m) v next (seen.event + 1)) there rest),
      )

-- THE LAW
pub driven-goes : (w : WorkloadView) (s : Setting) (e : ℕ) (r : Readings) (u : DrivenSpace) (cs : Contexts DrivenContext) (p : ProcNo) (a : ActNo)
    (life : Life) (c : DrivenContext) (seen : Seen) (n : ℕ)
    → IsActing driven_calls driven_stands driven_fits w s e r u cs p a life c
    → Sees s.space (event_begun_at w seen.event p r) p seen.event seen → line_of r p ≡ None → 1 ≤ n → e < seen.event → seen.event + n ≤ MAX_EVENTS + 1
    → StaysLocal s n (driven_calls.local u c)
    → AreLegalIns any w seen.event p r (driven_calls.went u seen c n).says
    (λ last. driven_fits w s last (driven_calls.went u seen c n).user (put cs a.0 (Some (driven_calls.went u seen c n).ctx)))
driven-goes w s e r u cs p a life c seen n acting sees low some later within local = by c.inside c.thread refl local where
  by : (inside : Bool) (o : Option ThreadNo) → c.thread ≡ o → StaysLocal s n (local_at u inside o)
      → AreLegalIns any w seen.event p r (went_at u c n inside o).says
      (λ last. driven_fits w s last (went_at u c n inside o).user (put cs a.0 (Some (went_at u c n inside o).ctx)))
  by true o own local = absurd local
  by false None own local = absurd local
  by false (Some t) own local =
      many n some within
      (subst (λ d. AreLocal (program_at d.programs (block_at u.base.shared.threads t.0).program) n (spot_of (block_at u.base.shared.threads t.0)))
      (sym acting.holds.value.made.def) local) where
        many : (k : ℕ) → 1 ≤ k → seen.event + k ≤ MAX_EVENTS + 1
            → AreLocal (program_at u.base.def.programs (block_at u.base.shared.threads t.0).program) k (spot_of (block_at u.base.shared.threads t.0))
            → AreLegalIns any w seen.event p r (went_at u c k false (Some t)).says
            (λ last. driven_fits w s last (went_at u c k false (Some t)).user (put cs a.0 (Some c)))
        many zero none within local = absurd (omega (arith, none))
        many (suc m) some within local =
            subst
            (λ o. AreLegalIns any w seen.event p r
            (ins_records o t (program_at u.base.def.programs (block_at u.base.shared.threads t.0).program) (suc m) (spot_of (block_at u.base.shared.threads t.0)))
            (λ last. driven_fits w s last (went_at u c (suc m) false (Some t)).user (put cs a.0 (Some c))))
            (sym acting.holds.value.made.space)
            (runs s cs w p a c t own m e u r life seen
            (the-scene w s e r u cs p a life c seen acting sees later (omega (arith, within))) (omega (arith, within)) local)
