-- A run of FastThreads' local instructions: each is a legal event of its own, and after the last one all fits.
use Rattle.std.proofs.Common.{◌≡◌, ℕ, zero, suc, ◌+◌, ◌≤◌, ◌<◌, List, [], ◌∷◌, Option, Some, None, refl, sym, ap, ◌∙◌, subst, inl, arith}
use Rattle.std.proofs.lemmas.List.{set-set, get_or-set_same}
use Rattle.sa_base.specs.declared.context.Seen.{Seen}
use Rattle.sa_base.specs.declared.limits.TheConstants.{MAX_EVENTS}
use Rattle.sa_base.specs.declared.number.ActNo.{ActNo}
use Rattle.sa_base.specs.declared.number.ProcNo.{ProcNo}
use Rattle.sa_base.specs.declared.number.ThreadNo.{ThreadNo}
use Rattle.sa_base.specs.declared.record.Record.{Record}
use Rattle.sa_base.specs.declared.record.Record.TheVariants as records
use Rattle.sa_lemmas.proofs.FunctionUpdates.{put-self}
use Rattle.sa_lemmas.specs.Function.{put}
use Rattle.sa_instr.specs.Local.{pc_after, regs_after, local_answer}
use Rattle.sa_instr.specs.declared.answer.Local.TheVariants.{Went}
use Rattle.sa_spaces.specs.Workload.{WorkloadView}
use Rattle.sa_code.specs.declared.state.Frame.{Frame}
use Rattle.sa_fast.specs.Instruction.{instr_of, with_thread}
use Rattle.sa_fast.specs.Threads.{unmade, block_at, gone_to}
use Rattle.sa_fast.specs.declared.threads.Block.{Block}
use Rattle.sa_abstract.specs.Calls.{Contexts}
use Rattle.sa_abstract.specs.Keeps.{StaysLocal}
use Rattle.sa_abstract.specs.Setting.{Setting}
use Rattle.sa_abstract.specs.Walk.{program_at, after_one, AreLocal, ins_records}
use Rattle.sa_package_model.specs.Rules.{pair, did, with_shared}
use Rattle.sa_package_model.specs.Stands.{fast_stands}
use Rattle.sa_package_model.specs.Step.{fast_calls, gone_by, gone_at, local_at, spot_of, block_after}
use Rattle.sa_package_model.specs.declared.context.Context.{Context}
use Rattle.sa_package_model.specs.declared.context.ContextState.{ContextState}
use Rattle.sa_package_model.specs.declared.context.ContextState.TheVariants.{Code, Work, Hint, Return, User, Look}
use Rattle.sa_package_model.specs.declared.package.Package.{Package}
use Rattle.sa_laws.specs.History.{after_event, is_inside}
use Rattle.sa_laws.specs.Life.{Life}
use Rattle.sa_laws.specs.Readings.{Readings, line_of}
use Rattle.sa_laws.specs.Rules.{fast_threads}
use Rattle.sa_user_laws.specs.Moments.{Sees}
use Rattle.sa_user_laws.specs.Scene.{IsActing, event_begun_at}
use Rattle.sa_user_laws.specs.Steps.{IsLegalIns, AreLegalIns, event_with}
use Rattle.sa_fast_laws.specs.FastFits.{FastFits, fast_fits}
use Rattle.sa_fast_laws.proofs.steps.Events.{IsLegal}
use Rattle.sa_fast_laws.proofs.steps.Scenes.{IsScene, IsFastScene}
use Rattle.sa_fast_laws.proofs.user_steps.UserMoves.{IsCalm, instr_is, t_below}
use Rattle.sa_fast_laws.proofs.user_steps.UserSteps.{goes-legal}
use Rattle.sa_fast_laws.proofs.StepLaws.{the-scene}
use Rattle.sa_fast_laws.proofs.user_steps.LocalMoves.{behind, local-goes, local-is, local-scene, its1, its1-is, seen1}

-- ONE INSTRUCTION
module _ (set : Setting) (e : ℕ) (u : Package) (cs : Contexts Context) (w : WorkloadView) (r : Readings) (p : ProcNo) (a : ActNo) (life : Life)
    (seen : Seen) (t : ThreadNo)
    (fast : IsFastScene set e u cs w r p a life (record { state = User t; sections = []; work = None }) seen)
    (local : local_answer (instr_of u.def (block_at u.shared.threads t.0)) ≡ Went) where
  abbrev c0 : Context
  c0 = record { state = User t; sections = []; work = None }

  abbrev x : Record
  x = records.Ins set.space t (block_at u.shared.threads t.0).pc

  abbrev v : Package
  v = behind u seen t (instr_of u.def (block_at u.shared.threads t.0))

  abbrev i : IsScene set e u cs w r p a life (record { state = User t; sections = []; work = None }) seen
  i = fast.scene

  pub legal : IsLegal w set r p seen.event a cs (did (pair v c0) (x ∷ []))
  legal =
      let goes = local-goes set e u cs w r p a life seen t i local in
      subst (IsLegal w set r p seen.event a cs) (local-is set e u cs w r p a life seen t i local)
      (goes-legal set e u cs w r p a life seen t fast (subst IsCalm (sym goes) tt) goes)

  pub legal-ins : IsLegalIns fast_threads w seen.event p r x
  legal-ins = record {
    needs = legal.steps.0;
    is_local = ap local_answer (instr_is set e u cs w r p a life seen t i) ∙ local;
    rules_hold = λ closing closed. legal.answer.rules_hold closing closed;
  }

  -- THE NEXT SCENE, where no slice ends with its event
  abbrev r1 : Readings
  r1 = after_event is_inside w r (event_with seen.event p (records.Ins set.space t (block_at u.shared.threads t.0).pc ∷ []) [])

  put-c : put cs a.0 (Some c0) ≡ cs
  put-c = ap (put cs a.0) (sym i.on.mine) ∙ put-self cs a.0

  fits1 : FastFits set.space r1 v cs
  fits1 = subst (FastFits set.space r1 v) put-c (legal.answer.after [] (record { closes = tt; is_own = refl })
      (record {
        kernel = record { state = refl; lives = refl; running = refl; taken = refl; untold = refl; ready = refl; lines = λ y some. some };
        demands = refl;
      }))

  pub scene1 : seen.event + 1 ≤ MAX_EVENTS
      → IsFastScene set seen.event v cs w r1 p a (its1 set e u cs w r p a life seen t i local is_inside) c0
      (seen1 set e u cs w r p a life seen t i local is_inside)
  scene1 within =
      let mark = (fits1.rest a c0 (its1 set e u cs w r p a life seen t i local is_inside) i.on.mine
      (its1-is set e u cs w r p a life seen t i local is_inside)).marks in
      record {
        scene = local-scene set e u cs w r p a life seen t i local is_inside within;
        lists = fits1.lists;
        others = λ y d l ne at is. fits1.rest y d l at is;
        free = λ outside. inl (mark.inside ∙ outside);
      }

-- A RUN of instructions
module _ (set : Setting) (cs : Contexts Context) (w : WorkloadView) (p : ProcNo) (a : ActNo) (t : ThreadNo) where
  abbrev c1 : Context
  c1 = record { state = User t; sections = []; work = None }

  -- n instructions from block b on, in events from number e on
  abbrev IsRun : ℕ → Package → Readings → ℕ → Block → Type 0
  IsRun n u r e b = AreLegalIns fast_threads w e p r (ins_records set.space t (program_at u.def.programs b.program) n (spot_of b))
      (λ last. FastFits set.space last (with_shared u (with_thread u.shared t (block_after (program_at u.def.programs b.program) n b))) (put cs a.0 (Some c1)))

  runs : (m e : ℕ) (u : Package) (r : Readings) (life : Life) (seen : Seen)
      → IsFastScene set e u cs w r p a life c1 seen → seen.event + m ≤ MAX_EVENTS
      → AreLocal (program_at u.def.programs (block_at u.shared.threads t.0).program) (suc m) (spot_of (block_at u.shared.threads t.0))
      → IsRun (suc m) u r seen.event (block_at u.shared.threads t.0)
  runs zero e u r life seen i within local = (
    legal-ins set e u cs w r p a life seen t i local.0,
    λ closing closed alike. (legal set e u cs w r p a life seen t i local.0).answer.after closing closed alike,
  )
  runs (suc m) e u r life seen i within local =
      let b = block_at u.shared.threads t.0 in
      let program = program_at u.def.programs b.program in
      let v = behind u seen t (instr_of u.def b) in
      let b1 = gone_to b (pc_after (instr_of u.def b) b.pc b.regs) (regs_after (instr_of u.def b) b.regs) in
      let r1 = after_event is_inside w r (event_with seen.event p (records.Ins set.space t b.pc ∷ []) []) in
      let there : block_at v.shared.threads t.0 ≡ b1 = get_or-set_same u.shared.threads t.0 b1 unmade (t_below set e u cs w r p a life seen t i.scene) in
      let rest = runs m seen.event v r1 (its1 set e u cs w r p a life seen t i.scene local.0 is_inside)
      (seen1 set e u cs w r p a life seen t i.scene local.0 is_inside)
      (scene1 set e u cs w r p a life seen t i local.0 (omega arith)) (omega arith)
      (subst (λ y. AreLocal (program_at u.def.programs y.program) (suc m) (spot_of y)) (sym there) local.1) in (
        legal-ins set e u cs w r p a life seen t i local.0,
        subst (λ ys. AreLegalIns fast_threads w (seen.event + 1) p r1 (ins_records set.space t program (suc m) (after_one program (spot_of b)))
            (λ last. FastFits set.space last (with_shared u (record u.shared { threads = ys })) (put cs a.0 (Some c1))))
            (set-set u.shared.threads t.0 b1 (block_after program (suc (suc m)) b)) (subst (IsRun (suc m) v r1 (seen.event + 1)) there rest),
      )

-- THE LAW
pub fast-goes : (w : WorkloadView) (s : Setting) (e : ℕ) (r : Readings) (u : Package) (cs : Contexts Context) (p : ProcNo) (a : ActNo) (life : Life)
    (c : Context) (seen : Seen) (n : ℕ)
    → IsActing fast_calls fast_stands fast_fits w s e r u cs p a life c
    → Sees s.space (event_begun_at w seen.event p r) p seen.event seen → line_of r p ≡ None → 1 ≤ n → e < seen.event → seen.event + n ≤ MAX_EVENTS + 1
    → StaysLocal s n (fast_calls.local u c)
    → AreLegalIns fast_threads w seen.event p r (fast_calls.went u seen c n).says
    (λ last. fast_fits w s last (fast_calls.went u seen c n).user (put cs a.0 (Some (fast_calls.went u seen c n).ctx)))
fast-goes w s e r u cs p a life c seen n acting sees low some later within local = by c.state c.sections c.work acting local where
  by : (state : ContextState) (fs : List Frame) (wk : Option ThreadNo)
      → IsActing fast_calls fast_stands fast_fits w s e r u cs p a life (record { state = state; sections = fs; work = wk })
      → StaysLocal s n (local_at u state)
      → AreLegalIns fast_threads w seen.event p r (gone_at u (record { state = state; sections = fs; work = wk }) n state).says
      (λ last. FastFits s.space last (gone_at u (record { state = state; sections = fs; work = wk }) n state).user
      (put cs a.0 (Some (gone_at u (record { state = state; sections = fs; work = wk }) n state).ctx)))
  by (Code f) fs wk i local = absurd local
  by (Work t) fs wk i local = absurd local
  by (Hint t) fs wk i local = absurd local
  by Return fs wk i local = absurd local
  by (Look looks) fs wk i local = absurd local
  by (User t) (f ∷ fs) wk i local = absurd (let left = (i.fit.rest a _ life i.on.mine i.on.is).marks.left in cc)
  by (User t) [] (Some m) i local = absurd (let left = (i.fit.rest a _ life i.on.mine i.on.is).marks.left in cc)
  by (User t) [] None i local =
      many n some within
      (subst (λ d. AreLocal (program_at d.programs (block_at u.shared.threads t.0).program) n (spot_of (block_at u.shared.threads t.0)))
      (sym i.holds.value.made.def) local) where
        many : (k : ℕ) → 1 ≤ k → seen.event + k ≤ MAX_EVENTS + 1
            → AreLocal (program_at u.def.programs (block_at u.shared.threads t.0).program) k (spot_of (block_at u.shared.threads t.0))
            → AreLegalIns fast_threads w seen.event p r
            (gone_by u (record { state = User t; sections = []; work = None }) k t (block_at u.shared.threads t.0)).says
            (λ last. FastFits s.space last (gone_by u (record { state = User t; sections = []; work = None }) k t (block_at u.shared.threads t.0)).user
            (put cs a.0 (Some (record { state = User t; sections = []; work = None }))))
        many zero none within local = absurd (omega arith)
        many (suc m) some within local =
            subst
            (λ o. AreLegalIns fast_threads w seen.event p r
            (ins_records o t (program_at u.def.programs (block_at u.shared.threads t.0).program) (suc m) (spot_of (block_at u.shared.threads t.0)))
            (λ last. FastFits s.space last (gone_by u (record { state = User t; sections = []; work = None }) (suc m) t (block_at u.shared.threads t.0)).user
            (put cs a.0 (Some (record { state = User t; sections = []; work = None })))))
            (sym i.holds.value.made.space)
            (runs s cs w p a t m e u r life seen
            (the-scene w s e r u cs p a life (record { state = User t; sections = []; work = None }) seen i sees later (omega arith)) (omega arith) local)
