-- The law of steps: whatever reply there is, done or not.
use Rattle.std.proofs.Common.{◌≡◌, ℕ, ◌≤◌, ◌<◌, Bool, true, false, cond, ◌&&◌, List, [], ◌∷◌, Option, Some, None, is_some, is_none, refl, sym, ap, ◌∙◌, subst, inl, inr}
use Rattle.std.specs.Prelude.{if◌then◌else◌}
use Rattle.sa_base.specs.declared.context.Seen.{Seen}
use Rattle.sa_base.specs.declared.limits.TheConstants.{MAX_EVENTS}
use Rattle.sa_base.specs.declared.number.ActNo.{ActNo}
use Rattle.sa_base.specs.declared.number.ProcNo.{ProcNo}
use Rattle.sa_base.specs.declared.number.ThreadNo.{ThreadNo}
use Rattle.sa_base.specs.declared.record.Record.{Record}
use Rattle.sa_base.specs.declared.record.Record.TheVariants as records
use Rattle.sa_instr.specs.declared.instr.Instr.{Instr}
use Rattle.sa_spaces.specs.Workload.{WorkloadView}
use Rattle.sa_fast.specs.Instruction.{Outcome, run, instr_of, outcome_of, touched, blocks, says_of, run_says}
use Rattle.sa_fast.specs.Rest.{is_ready, place_at}
use Rattle.sa_fast.specs.Threads.{block_at}
use Rattle.sa_fast.specs.Work.{work_of}
use Rattle.sa_fast.specs.declared.instruction.Ran.{Ran}
use Rattle.sa_fast.specs.declared.instruction.Ran.TheVariants as rans
use Rattle.sa_fast.specs.declared.threads.Block.{Block}
use Rattle.sa_abstract.specs.Calls.{Contexts, Stepped}
use Rattle.sa_abstract.specs.Keeps.{IsStepped}
use Rattle.sa_abstract.specs.Setting.{Setting}
use Rattle.sa_driven_model.proofs.StepRule.{without_stands}
use Rattle.sa_driven_model.specs.declared.context.DrivenContext.{DrivenContext}
use Rattle.sa_driven_model.specs.declared.reply.Reply.{Reply}
use Rattle.sa_driven_model.specs.declared.reply.Reply.TheVariants as reply
use Rattle.sa_driven_model.specs.declared.space.DrivenSpace.{DrivenSpace}
use Rattle.sa_driven_model.specs.Reply.{can}
use Rattle.sa_driven_model.specs.Stands.{driven_stands}
use Rattle.sa_driven_model.specs.Step.{faults, done, done_if, idles, runs, readies, ran, ran_by, after_run, is_next_local, without_reply, driven_calls}
use Rattle.sa_driven_model.specs.Threads.{has, with_all}
use Rattle.sa_laws.specs.Life.{Life}
use Rattle.sa_laws.specs.Readings.{Readings, line_of}
use Rattle.sa_user_laws.specs.Moments.{Sees}
use Rattle.sa_user_laws.specs.Scene.{IsActing, event_begun_at}
use Rattle.sa_fast_laws.proofs.user_steps.UserMoves.{IsCalm}
use Rattle.sa_driven_laws.specs.DrivenFits.{driven_fits}
use Rattle.sa_driven_laws.proofs.AskSteps.{wants-legal, gives-legal, line-legal}
use Rattle.sa_driven_laws.proofs.BlockSteps.{faulted-legal}
use Rattle.sa_driven_laws.proofs.InsBlocks.{which-blocks, touch-legal, io-legal}
use Rattle.sa_driven_laws.proofs.InsSteps.{calm-legal}
use Rattle.sa_driven_laws.proofs.Moves.{IsLegal}
use Rattle.sa_driven_laws.proofs.ReplySteps.{well-of, take-legal, free-legal, spin-legal, idle-legal, run-legal, ready-legal, cont-legal, back-legal}
use Rattle.sa_driven_laws.proofs.Scenes.{IsScene}
use Rattle.sa_driven_laws.proofs.Scenes as scene

-- a step before which all this is known
pub the-scene : (w : WorkloadView) (s : Setting) (e : ℕ) (r : Readings) (u : DrivenSpace) (cs : Contexts DrivenContext) (p : ProcNo) (a : ActNo) (life : Life)
    (c : DrivenContext) (seen : Seen)
    → IsActing driven_calls driven_stands driven_fits w s e r u cs p a life c
    → Sees s.space (event_begun_at w seen.event p r) p seen.event seen → e < seen.event → seen.event ≤ MAX_EVENTS
    → IsScene s e u cs w r p a life c seen
the-scene w s e r u cs p a life c seen i sees later within = record {
  of = i.holds.of;
  moment = i.holds.moment;
  sizes = i.holds.sizes;
  stands = i.holds.value;
  fits = i.fit;
  on = i.on;
  runner = i.runner;
  sees = sees;
  given = i.holds.taken;
  later = later;
  within = within;
}

module _ (set : Setting) (e : ℕ) (u : DrivenSpace) (cs : Contexts DrivenContext) (w : WorkloadView) (r : Readings) (p : ProcNo) (a : ActNo) (life : Life)
    (c : DrivenContext) (seen : Seen) (i : IsScene set e u cs w r p a life c seen) where
  abbrev Legal : Stepped DrivenSpace DrivenContext → Type 0
  Legal st = IsLegal w set r p seen.event a cs st

  abbrev Well : Stepped DrivenSpace DrivenContext → Type 0
  Well st = IsStepped driven_stands set seen cs a.0 st

  -- AN INSTRUCTION, by its outcome
  module _ (t : ThreadNo) (own : c.thread ≡ Some t) where
    abbrev b : Block
    b = block_at u.base.shared.threads t.0

    abbrev j : Instr
    j = instr_of u.base.def (block_at u.base.shared.threads t.0)

    abbrev o : Outcome
    o = run u.base.def u.base.fetch seen.pages u.base.shared None t

    abbrev By : Outcome → Ran → List Record → Stepped DrivenSpace DrivenContext
    By z answer says = ran_by (after_run u z) seen (record c { hand = with_all c.hand (work_of z.shared.works z.work) }) (is_next_local u t) answer says

    blocks-legal : (n : ℕ) (page : Option ℕ) → o.answer ≡ rans.Blocks n page → Legal (By o o.answer (run_says u.base.def seen.pages u.base.shared t))
    blocks-legal n page is = elim (which-blocks u.base.fetch seen.pages u.base.shared t b j n page is).by [
      | inl io ↦
          subst (λ y. Legal (By o y (run_says u.base.def seen.pages u.base.shared t))) (sym (is ∙ ap (rans.Blocks n) io.1))
          (subst (λ ys. Legal (By o (rans.Blocks n None) ys))
          (sym (ap (λ k. says_of u.base.shared.state.space t b seen.pages k) io.0
          ∙ ap (λ k. records.Ins k t b.pc ∷ []) (scene.space set e u cs w r p a life c seen i)))
          (io-legal set e u cs w r p a life c seen i t own n io.0 (is_next_local u t)))
      | inr touch ↦
          let z = blocks u.base.shared None t b u.base.fetch (Some touch.0) in
          let outcome : o ≡ z = ap (outcome_of u.base.fetch seen.pages u.base.shared None t b) touch.1
          ∙ ap (touched u.base.shared None t b u.base.fetch touch.0) touch.2 in
          subst (λ y. Legal (By y y.answer (run_says u.base.def seen.pages u.base.shared t))) (sym outcome)
          (subst (λ ys. Legal (By z (rans.Blocks u.base.fetch (Some touch.0)) ys))
          (sym (ap (λ k. says_of u.base.shared.state.space t b seen.pages k) touch.1
          ∙ ap (λ k. if k then records.Ins u.base.shared.state.space t b.pc ∷ [] else []) touch.2))
          (touch-legal set e u cs w r p a life c seen i t own touch.0 touch.1 touch.2 (is_next_local u t)))
    ]

    pub ins-legal : (answer : Ran) → o.answer ≡ answer → Well (ran u seen c (Some t)) → Legal (ran u seen c (Some t))
    ins-legal (rans.Blocks n page) is well = blocks-legal n page is
    ins-legal rans.Goes is well =
        subst (λ y. Legal (By o y (run_says u.base.def seen.pages u.base.shared t))) (sym is)
        (calm-legal set e u cs w r p a life c seen i t own (subst IsCalm (sym is) tt) rans.Goes is tt
        (subst (λ y. Well (By o y (run_says u.base.def seen.pages u.base.shared t))) is well))
    ins-legal rans.Leaves is well =
        subst (λ y. Legal (By o y (run_says u.base.def seen.pages u.base.shared t))) (sym is)
        (calm-legal set e u cs w r p a life c seen i t own (subst IsCalm (sym is) tt) rans.Leaves is tt
        (subst (λ y. Well (By o y (run_says u.base.def seen.pages u.base.shared t))) is well))

  thread-legal : (t : Option ThreadNo) → c.thread ≡ t → is_some t ≡ true → Well (ran u seen c t) → Legal (ran u seen c t)
  thread-legal None own some well = absurd cc
  thread-legal (Some t) own some well = ins-legal t own (run u.base.def u.base.fetch seen.pages u.base.shared None t).answer refl well

  -- THE REPLIES
  runs-legal : (t : ThreadNo) (fault : Bool) → faults seen c ≡ fault → (is_none c.thread && is_ready (place_at u.base.shared t.0)) ≡ true
      → Well (runs u seen c t fault) → Legal (runs u seen c t fault)
  runs-legal t true is able well = faulted-legal set e u cs w r p a life c seen i is
  runs-legal t false is able well = run-legal set e u cs w r p a life c seen i t able well

  readies-legal : (t : ThreadNo) (fault : Bool) → faults seen c ≡ fault → has u.handed t.0 ≡ true
      → Well (readies u seen c t fault) → Legal (readies u seen c t fault)
  readies-legal t true is able well = faulted-legal set e u cs w r p a life c seen i is
  readies-legal t false is able well = ready-legal set e u cs w r p a life c seen i t able well

  done-legal : (x : Reply) → can u seen c x ≡ true → Well (done u seen c x) → Legal (done u seen c x)
  done-legal reply.Ins able well = thread-legal c.thread refl able well
  done-legal (reply.Run t) able well = runs-legal t (faults seen c) refl able well
  done-legal (reply.Ready t) able well = readies-legal t (faults seen c) refl able well
  done-legal (reply.Cont t) able well = cont-legal set e u cs w r p a life c seen i t able well
  done-legal reply.Back able well = back-legal set e u cs w r p a life c seen i c.thread refl well
  done-legal (reply.Take l) able well = take-legal set e u cs w r p a life c seen i l able
  done-legal (reply.Free l) able well = free-legal set e u cs w r p a life c seen i l able
  done-legal (reply.Spin l) able well = spin-legal set e u cs w r p a life c seen i l able
  done-legal reply.Idle able well = idle-legal set e u cs w r p a life c seen i
  done-legal (reply.Want n) able well = wants-legal set e u cs w r p a life c seen i n able
  done-legal reply.GiveBack able well = gives-legal set e u cs w r p a life c seen i able
  done-legal (reply.Line q) able well = line-legal set e u cs w r p a life c seen i q able

  by-legal : (x : Reply) (test : Bool) → can u seen c x ≡ test → Legal (cond test (done u seen c x) (idles u c))
  by-legal x true able = done-legal x able (well-of set e u cs w r p a life c seen i x able)
  by-legal x false able = idle-legal set e u cs w r p a life c seen i

  pub if-legal : (x : Option Reply) → Legal (done_if u seen c x)
  if-legal None = idle-legal set e u cs w r p a life c seen i
  if-legal (Some x) = by-legal x (can u seen c x) refl

-- THE LAW
pub driven-steps : (w : WorkloadView) (s : Setting) (e : ℕ) (r : Readings) (u : DrivenSpace) (cs : Contexts DrivenContext) (p : ProcNo) (a : ActNo)
    (life : Life) (c : DrivenContext) (seen : Seen)
    → IsActing driven_calls driven_stands driven_fits w s e r u cs p a life c
    → Sees s.space (event_begun_at w seen.event p r) p seen.event seen → line_of r p ≡ None → 1 ≤ seen.event → e < seen.event → seen.event ≤ MAX_EVENTS
    → IsLegal w s r p seen.event a cs (driven_calls.stepped u seen c)
driven-steps w s e r u cs p a life c seen i sees low some later within =
    let j = the-scene w s e r u cs p a life c seen i sees later within in
    if-legal s e (without_reply u) cs w r p a life c seen (record {
      of = j.of;
      moment = j.moment;
      sizes = j.sizes;
      stands = without_stands s e u cs j.stands;
      fits = j.fits;
      on = j.on;
      runner = j.runner;
      sees = j.sees;
      given = j.given;
      later = j.later;
      within = j.within;
    }) u.reply
