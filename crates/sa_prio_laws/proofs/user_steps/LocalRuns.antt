-- A run of local instructions: each is a legal event of its own, and after the last one all fits. A context with a mark makes
-- none, and one without a mark stays without it.
use Rattle.std.proofs.Common.{◌≡◌, ℕ, zero, suc, ◌+◌, ◌≤◌, ◌<◌, Bool, true, false, if◌then◌else◌, List, [], ◌∷◌, length, length-set, Option, Some, None, slice_set, slice_index_or, refl, sym, ap, ◌∙◌, subst, inl, inr, arith}
use Rattle.std.proofs.lemmas.Bool.{cases_lt}
use Rattle.std.proofs.lemmas.List.{set-set, set-get_or, get_or_past, get_or-set_same}
use Rattle.sa_base.specs.declared.context.Seen.{Seen}
use Rattle.sa_base.specs.declared.limits.TheConstants.{MAX_EVENTS}
use Rattle.sa_base.specs.declared.number.ActNo.{ActNo}
use Rattle.sa_base.specs.declared.number.ProcNo.{ProcNo}
use Rattle.sa_base.specs.declared.number.ThreadNo.{ThreadNo}
use Rattle.sa_base.specs.declared.record.Record.{Record}
use Rattle.sa_base.specs.declared.record.Record.TheVariants as records
use Rattle.sa_lemmas.proofs.FunctionUpdates.{put-self}
use Rattle.sa_lemmas.specs.Function.{put}
use Rattle.sa_instr.specs.Local.{pc_after, regs_after, local_answer}
use Rattle.sa_instr.specs.declared.answer.Local.TheVariants.{Went}
use Rattle.sa_spaces.specs.Workload.{WorkloadView}
use Rattle.sa_code.specs.declared.state.Frame.{Frame}
use Rattle.sa_fast.specs.Instruction.{instr_of, with_thread}
use Rattle.sa_fast.specs.Threads.{unmade, block_at, gone_to}
use Rattle.sa_fast.specs.declared.threads.Block.{Block}
use Rattle.sa_abstract.specs.Calls.{Contexts}
use Rattle.sa_abstract.specs.Keeps.{StaysLocal}
use Rattle.sa_abstract.specs.Setting.{Setting}
use Rattle.sa_abstract.specs.Walk.{program_at, after_one, AreLocal, ins_records}
use Rattle.sa_abstract.specs.declared.answer.SeatState.TheVariants.{Away}
use Rattle.sa_abstract.specs.declared.answer.Step.TheVariants.{Did}
use Rattle.sa_package_model.specs.Rules.{with_shared}
use Rattle.sa_package_model.specs.Step.{gone_by, gone_at, local_at, spot_of, block_after}
use Rattle.sa_package_model.specs.declared.context.Context.{Context}
use Rattle.sa_package_model.specs.declared.context.ContextState.{ContextState}
use Rattle.sa_package_model.specs.declared.context.ContextState.TheVariants.{Code, Work, Hint, Return, User, Look}
use Rattle.sa_package_model.specs.declared.package.Package.{Package}
use Rattle.sa_laws.specs.History.{after_event}
use Rattle.sa_laws.specs.Life.{Life}
use Rattle.sa_laws.specs.Readings.{Readings, line_of}
use Rattle.sa_user_laws.specs.Moments.{Sees}
use Rattle.sa_user_laws.specs.Scene.{IsActing, event_begun_at}
use Rattle.sa_user_laws.specs.Steps.{IsLegalStep, IsLegalIns, AreLegalIns, event_with}
use Rattle.sa_fast_laws.proofs.steps.Scenes.{IsScene}
use Rattle.sa_fast_laws.proofs.user_steps.LocalMoves.{behind, local-goes, local-is, local-stands, local-scene, its1, its1-is, seen1}
use Rattle.sa_fast_laws.proofs.user_steps.UserMoves.{IsCalm, instr_is, t_below}
use Rattle.sa_ranks.specs.Inside.{is_inside_or_urged}
use Rattle.sa_ranks.specs.Rules.{prio_threads}
use Rattle.sa_prio_model.specs.Prio.{Prio, with_base, with_on}
use Rattle.sa_prio_model.specs.Stands.{bases, prio_stands}
use Rattle.sa_prio_model.specs.Step.{prio_calls, going}
use Rattle.sa_prio_model.specs.declared.context.PrioContext.{PrioContext}
use Rattle.sa_prio_laws.specs.PrioFits.{PrioFits, prio_fits}
use Rattle.sa_prio_laws.proofs.steps.Moves.{base-scene}
use Rattle.sa_prio_laws.proofs.steps.Scenes.{IsPrioScene, the-scene}
use Rattle.sa_prio_laws.proofs.steps.Unbound.{IsUnbound}
use Rattle.sa_prio_laws.proofs.user_steps.UserSteps.{goes-legal}

-- ONE INSTRUCTION
module _ (set : Setting) (e : ℕ) (v : Prio) (cs : Contexts PrioContext) (w : WorkloadView) (r : Readings) (p : ProcNo) (a : ActNo) (life : Life)
    (seen : Seen) (t : ThreadNo)
    (i : IsPrioScene set e v cs w r p a life (record { base = record { state = User t; sections = []; work = None }; urge = false }) seen)
    (out : IsUnbound w r life)
    (local : local_answer (instr_of v.base.def (block_at v.base.shared.threads t.0)) ≡ Went) where
  abbrev c0 : Context
  c0 = record { state = User t; sections = []; work = None }

  abbrev old : PrioContext
  old = record { base = record { state = User t; sections = []; work = None }; urge = false }

  abbrev x : Record
  x = records.Ins set.space t (block_at v.base.shared.threads t.0).pc

  abbrev u : Package
  u = behind v.base seen t (instr_of v.base.def (block_at v.base.shared.threads t.0))

  abbrev now : Prio
  now = with_base v (behind v.base seen t (instr_of v.base.def (block_at v.base.shared.threads t.0)))

  abbrev scene : IsScene set e v.base (bases cs) w r p a life c0 seen
  scene = base-scene set e v cs w r p a life old.base seen i

  -- its thread is on the processor already
  on-same : with_on (with_base v u) seen.proc (Some t) ≡ with_base v u
  on-same =
      ap (λ (z : ProcNo). with_on (with_base v u) z (Some t)) i.sees.proc
      ∙ ap (λ o. with_on (with_base v u) p o) (sym (i.kept p a old i.on.runs i.on.mine))
      ∙ ap (λ ts. record { base = u; on = ts }) (set-get_or v.on p.0 None)

  pub legal : IsLegalStep prio_calls prio_threads prio_fits w set r p seen.event a cs (record { user = now; ctx = old; says = x ∷ []; answer = Did })
  legal =
      let goes = local-goes set e v.base (bases cs) w r p a life seen t scene local in
      subst (λ z. IsLegalStep prio_calls prio_threads prio_fits w set r p seen.event a cs (record { user = z; ctx = old; says = x ∷ []; answer = Did })) on-same
      (subst (IsLegalStep prio_calls prio_threads prio_fits w set r p seen.event a cs)
      (ap (going v seen (User t)) (local-is set e v.base (bases cs) w r p a life seen t scene local))
      (goes-legal set e v cs w r p a life seen t i out (subst IsCalm (sym goes) tt) goes))

  pub legal-ins : IsLegalIns prio_threads w seen.event p r x
  legal-ins = record {
    needs = legal.steps.0;
    is_local = ap local_answer (instr_is set e v.base (bases cs) w r p a life seen t scene) ∙ local;
    rules_hold = λ closing closed. legal.answer.rules_hold closing closed;
  }

  -- THE NEXT SCENE, where no slice ends with its event
  abbrev r1 : Readings
  r1 = after_event is_inside_or_urged w r (event_with seen.event p (records.Ins set.space t (block_at v.base.shared.threads t.0).pc ∷ []) [])

  abbrev its : Life
  its = its1 set e v.base (bases cs) w r p a life seen t scene local is_inside_or_urged

  put-c : put cs a.0 (Some old) ≡ cs
  put-c = ap (put cs a.0) (sym i.on.mine) ∙ put-self cs a.0

  fits1 : PrioFits set.space r1 now cs
  fits1 = subst (PrioFits set.space r1 now) put-c (legal.answer.after [] (record { closes = tt; is_own = refl })
      (record {
        kernel = record { state = refl; lives = refl; running = refl; taken = refl; untold = refl; ready = refl; lines = λ y some. some };
        demands = refl;
      }))

  low1 : (xs : List (Option ℕ)) (n : ℕ) → slice_index_or (slice_set xs n None) n None ≡ None
  low1 xs n = elim (cases_lt n (length xs)) [
    | inl less ↦ get_or-set_same xs n None None less
    | inr past ↦ get_or_past (slice_set xs n None) n None (let size = length-set xs n None in omega arith)
  ]

  pub scene1 : seen.event + 1 ≤ MAX_EVENTS
      → IsPrioScene set seen.event now cs w r1 p a (its1 set e v.base (bases cs) w r p a life seen t scene local is_inside_or_urged) old
      (seen1 set e v.base (bases cs) w r p a life seen t scene local is_inside_or_urged)
  scene1 within =
      let s = local-scene set e v.base (bases cs) w r p a life seen t scene local is_inside_or_urged within in
      record {
        of = s.of;
        moment = s.moment;
        sizes = s.sizes;
        stands = record {
          base = local-stands set e v.base (bases cs) w r p a life seen t scene local;
          marks = i.stands.marks;
          processors = i.stands.processors;
          threads = i.stands.threads;
        };
        holds = s.holds;
        ranked = fits1.ranked;
        kept = fits1.on;
        others = λ y d l ne at is. fits1.lives.rest y d l at is;
        own = s.own;
        fresh = λ marked. refl;
        on = record { runs = s.on.runs; is = s.on.is; space = s.on.space; proc = s.on.proc; owner = s.on.owner; mine = i.on.mine };
        runner = s.runner;
        sees = s.sees;
        low = low1 r.lines p.0;
        given = i.given;
        later = s.later;
        within = s.within;
      }

  pub out1 : IsUnbound w r1 (its1 set e v.base (bases cs) w r p a life seen t scene local is_inside_or_urged)
  out1 =
      let mark = (fits1.lives.rest a old its i.on.mine (its1-is set e v.base (bases cs) w r p a life seen t scene local is_inside_or_urged)).marks in
      inl mark.inside

-- A RUN of instructions
module _ (set : Setting) (cs : Contexts PrioContext) (w : WorkloadView) (p : ProcNo) (a : ActNo) (t : ThreadNo) where
  abbrev c1 : PrioContext
  c1 = record { base = record { state = User t; sections = []; work = None }; urge = false }

  -- n instructions from block b on, in events from number e on
  abbrev IsRun : ℕ → Prio → Readings → ℕ → Block → Type 0
  IsRun n v r e b = AreLegalIns prio_threads w e p r (ins_records set.space t (program_at v.base.def.programs b.program) n (spot_of b))
      (λ last. PrioFits set.space last
      (with_base v (with_shared v.base (with_thread v.base.shared t (block_after (program_at v.base.def.programs b.program) n b)))) (put cs a.0 (Some c1)))

  runs : (m e : ℕ) (v : Prio) (r : Readings) (life : Life) (seen : Seen)
      → IsPrioScene set e v cs w r p a life c1 seen → IsUnbound w r life → seen.event + m ≤ MAX_EVENTS
      → AreLocal (program_at v.base.def.programs (block_at v.base.shared.threads t.0).program) (suc m) (spot_of (block_at v.base.shared.threads t.0))
      → IsRun (suc m) v r seen.event (block_at v.base.shared.threads t.0)
  runs zero e v r life seen i out within local = (
    legal-ins set e v cs w r p a life seen t i out local.0,
    λ closing closed alike. (legal set e v cs w r p a life seen t i out local.0).answer.after closing closed alike,
  )
  runs (suc m) e v r life seen i out within local =
      let b = block_at v.base.shared.threads t.0 in
      let program = program_at v.base.def.programs b.program in
      let scene = base-scene set e v cs w r p a life c1.base seen i in
      let now = with_base v (behind v.base seen t (instr_of v.base.def b)) in
      let b1 = gone_to b (pc_after (instr_of v.base.def b) b.pc b.regs) (regs_after (instr_of v.base.def b) b.regs) in
      let r1 = after_event is_inside_or_urged w r (event_with seen.event p (records.Ins set.space t b.pc ∷ []) []) in
      let there : block_at now.base.shared.threads t.0 ≡ b1 =
      get_or-set_same v.base.shared.threads t.0 b1 unmade (t_below set e v.base (bases cs) w r p a life seen t scene) in
      let rest = runs m seen.event now r1 (its1 set e v.base (bases cs) w r p a life seen t scene local.0 is_inside_or_urged)
      (seen1 set e v.base (bases cs) w r p a life seen t scene local.0 is_inside_or_urged)
      (scene1 set e v cs w r p a life seen t i out local.0 (omega arith)) (out1 set e v cs w r p a life seen t i out local.0) (omega arith)
      (subst (λ y. AreLocal (program_at v.base.def.programs y.program) (suc m) (spot_of y)) (sym there) local.1) in (
        legal-ins set e v cs w r p a life seen t i out local.0,
        subst (λ ys. AreLegalIns prio_threads w (seen.event + 1) p r1 (ins_records set.space t program (suc m) (after_one program (spot_of b)))
            (λ last. PrioFits set.space last (with_base v (with_shared v.base (record v.base.shared { threads = ys }))) (put cs a.0 (Some c1))))
            (set-set v.base.shared.threads t.0 b1 (block_after program (suc (suc m)) b)) (subst (IsRun (suc m) now r1 (seen.event + 1)) there rest),
      )

-- THE LAW
pub prio-goes : (w : WorkloadView) (s : Setting) (e : ℕ) (r : Readings) (v : Prio) (cs : Contexts PrioContext) (p : ProcNo) (a : ActNo) (life : Life)
    (c : PrioContext) (seen : Seen) (n : ℕ)
    → IsActing prio_calls prio_stands prio_fits w s e r v cs p a life c
    → Sees s.space (event_begun_at w seen.event p r) p seen.event seen → line_of r p ≡ None → 1 ≤ n → e < seen.event → seen.event + n ≤ MAX_EVENTS + 1
    → StaysLocal s n (prio_calls.local v c)
    → AreLegalIns prio_threads w seen.event p r (prio_calls.went v seen c n).says
    (λ last. prio_fits w s last (prio_calls.went v seen c n).user (put cs a.0 (Some (prio_calls.went v seen c n).ctx)))
prio-goes w s e r v cs p a life c seen n acting sees low some later within local = by c.urge c.base.state c.base.sections c.base.work acting local where
  by : (urge : Bool) (state : ContextState) (fs : List Frame) (wk : Option ThreadNo)
      → IsActing prio_calls prio_stands prio_fits w s e r v cs p a life (record { base = record { state = state; sections = fs; work = wk }; urge = urge })
      → StaysLocal s n (if urge then Away else local_at v.base state)
      → AreLegalIns prio_threads w seen.event p r (gone_at v.base (record { state = state; sections = fs; work = wk }) n state).says
      (λ last. PrioFits s.space last (with_base v (gone_at v.base (record { state = state; sections = fs; work = wk }) n state).user)
      (put cs a.0 (Some (record { base = (gone_at v.base (record { state = state; sections = fs; work = wk }) n state).ctx; urge = urge }))))
  by true state fs wk i local = absurd local
  by false (Code f) fs wk i local = absurd local
  by false (Work t) fs wk i local = absurd local
  by false (Hint t) fs wk i local = absurd local
  by false Return fs wk i local = absurd local
  by false (Look looks) fs wk i local = absurd local
  by false (User t) (f ∷ fs) wk i local = absurd (let left = (i.fit.lives.rest a _ life i.on.mine i.on.is).marks.left in cc)
  by false (User t) [] (Some m) i local = absurd (let left = (i.fit.lives.rest a _ life i.on.mine i.on.is).marks.left in cc)
  by false (User t) [] None i local =
      many n some within
      (subst (λ d. AreLocal (program_at d.programs (block_at v.base.shared.threads t.0).program) n (spot_of (block_at v.base.shared.threads t.0)))
      (sym i.holds.value.base.made.def) local) where
        old : PrioContext
        old = record { base = record { state = User t; sections = []; work = None }; urge = false }

        out : IsUnbound w r life
        out = let mark = (i.fit.lives.rest a old life i.on.mine i.on.is).marks in inl mark.inside

        many : (k : ℕ) → 1 ≤ k → seen.event + k ≤ MAX_EVENTS + 1
            → AreLocal (program_at v.base.def.programs (block_at v.base.shared.threads t.0).program) k (spot_of (block_at v.base.shared.threads t.0))
            → AreLegalIns prio_threads w seen.event p r
            (gone_by v.base (record { state = User t; sections = []; work = None }) k t (block_at v.base.shared.threads t.0)).says
            (λ last. PrioFits s.space last
            (with_base v (gone_by v.base (record { state = User t; sections = []; work = None }) k t (block_at v.base.shared.threads t.0)).user)
            (put cs a.0 (Some (record { base = record { state = User t; sections = []; work = None }; urge = false }))))
        many zero none within local = absurd (omega arith)
        many (suc m) some within local =
            subst
            (λ o. AreLegalIns prio_threads w seen.event p r
            (ins_records o t (program_at v.base.def.programs (block_at v.base.shared.threads t.0).program) (suc m)
            (spot_of (block_at v.base.shared.threads t.0)))
            (λ last. PrioFits s.space last
            (with_base v (gone_by v.base (record { state = User t; sections = []; work = None }) (suc m) t (block_at v.base.shared.threads t.0)).user)
            (put cs a.0 (Some (record { base = record { state = User t; sections = []; work = None }; urge = false })))))
            (sym i.holds.value.base.made.space)
            (runs s cs w p a t m e v r life seen (the-scene w s e r v cs p a life old seen i sees low later (omega arith)) out (omega arith) local)
