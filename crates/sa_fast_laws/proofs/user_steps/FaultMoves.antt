-- The faults of a context: in the code of the package, and at the touch of an absent page.
use Rattle.std.proofs.Common.{◌≡◌, ℕ, Bool, true, false, ◌||◌, List, [], ◌∷◌, map, Option, Some, None, slice_get, nat_le, refl, sym, ap, ◌∙◌, subst, inl, inr}
use Rattle.std.specs.Prelude.{length, not, ◌&&◌, if◌then◌else◌, ◌⊎◌}
use Rattle.sa_base.specs.declared.context.Seen.{Seen}
use Rattle.sa_base.specs.declared.limits.TheConstants.{PACKAGE_PAGE}
use Rattle.sa_base.specs.declared.number.ActNo.{ActNo}
use Rattle.sa_base.specs.declared.number.ProcNo.{ProcNo}
use Rattle.sa_base.specs.declared.number.ThreadNo.{ThreadNo}
use Rattle.sa_base.specs.declared.record.Record.TheVariants as records
use Rattle.sa_instr.specs.declared.instr.Instr.{Instr}
use Rattle.sa_instr.specs.declared.instr.Instr.TheVariants.{Fork, Join, Lock, Unlock, Wait, Signal, Io, Touch}
use Rattle.sa_instr.specs.declared.instr.Reg.{Reg}
use Rattle.sa_spaces.specs.Workload.{WorkloadView}
use Rattle.sa_sync.specs.declared.answer.SyncAnswer.{SyncAnswer}
use Rattle.sa_sync.specs.declared.answer.SyncAnswer.TheVariants as answer
use Rattle.sa_code.specs.Micro.{Micro, micro, micro_at, stays, list_in, is_resident as is_page_resident}
use Rattle.sa_code.specs.declared.code.Op.{Op}
use Rattle.sa_code.specs.declared.code.Op.TheVariants as ops
use Rattle.sa_code.specs.declared.state.Frame.{Frame}
use Rattle.sa_code.specs.declared.state.MicroDone.TheVariants as micros
use Rattle.sa_copies.specs.Copies.{package_ops, copy_at}
use Rattle.sa_copies.specs.Runs.{is_section_op}
use Rattle.sa_fast.specs.Instruction.{says_of, outcome_of, instr_of, told_by, forked, touched}
use Rattle.sa_fast.specs.Threads.{block_at}
use Rattle.sa_fast.specs.declared.instruction.Ran.TheVariants as rans
use Rattle.sa_fast.specs.declared.shared.Shared.{Shared}
use Rattle.sa_fast.specs.declared.threads.Block.{Block}
use Rattle.sa_abstract.specs.Calls.{Contexts}
use Rattle.sa_abstract.specs.Setting.{Setting}
use Rattle.sa_package_model.proofs.Views.{has_copy}
use Rattle.sa_package_model.specs.Context.{at_copy}
use Rattle.sa_package_model.specs.Rules.{coded_by, with_shared, used_by}
use Rattle.sa_package_model.specs.Stands.{StandsAt}
use Rattle.sa_package_model.specs.declared.context.Context.{Context}
use Rattle.sa_package_model.specs.declared.context.ContextState.TheVariants.{Code, User}
use Rattle.sa_package_model.specs.declared.package.Package.{Package}
use Rattle.sa_laws.specs.Life.{Life, some_lock, first_lock, held_with}
use Rattle.sa_laws.specs.Readings.{Readings, life_of, has_hand, is_resident}
use Rattle.sa_laws.specs.Record.{locks_one, page_touched, page_in}
use Rattle.sa_laws.specs.State.{space_at, next_instr, instr_of as law_instr}
use Rattle.sa_laws.specs.Step.{IsMissed}
use Rattle.sa_laws.specs.Turns.{CanFault}
use Rattle.sa_user_laws.specs.Scene.{event_begun_at}
use Rattle.sa_fast_laws.proofs.relation.InCode.{push_at, pop_at}
use Rattle.sa_fast_laws.proofs.relation.InsideMarks.{has-left}
use Rattle.sa_fast_laws.proofs.relation.ThreadsBeside.{life-here}
use Rattle.sa_fast_laws.specs.Life.{lock_of, locks_from, HasLife}
use Rattle.sa_fast_laws.specs.Stage.{stage_of}
use Rattle.sa_fast_laws.specs.View.{view, is_yield_op}
use Rattle.sa_fast_laws.proofs.steps.Scenes.{IsScene}
use Rattle.sa_fast_laws.proofs.user_steps.BlockMoves.{IsFault}
use Rattle.sa_fast_laws.proofs.user_steps.UserMoves.{instr_is, thread_fits}

module _ (set : Setting) (e : ℕ) (u : Package) (cs : Contexts Context) (w : WorkloadView) (r : Readings) (p : ProcNo) (a : ActNo) (life : Life)
    (seen : Seen) where
  -- IN THE CODE: before the effect of a push or a pop
  module _ (f : Frame) (fs : List Frame) (wk : Option ThreadNo)
      (i : IsScene set e u cs w r p a life (record { state = Code f; sections = fs; work = wk }) seen)
      (absent : is_page_resident seen.pages PACKAGE_PAGE ≡ false)
      (is : micro u.shared.state f seen.pages ≡ stays u.shared.state f micros.Faulted []) where
    abbrev c : Context
    c = record { state = Code f; sections = fs; work = wk }

    op_is : slice_get u.shared.state.code f.pc ≡ slice_get package_ops f.pc
    op_is = ap (λ ops. slice_get ops f.pc) i.stands.code

    faulted : (o : Option Op) → StandsAt f o
        → micro_at u.shared.state f (is_page_resident seen.pages PACKAGE_PAGE) (list_in f) o ≡ stays u.shared.state f micros.Faulted []
        → (o ≡ Some ops.Push) ⊎ (o ≡ Some ops.Pop)
    faulted (Some ops.Push) at same = inl refl
    faulted (Some ops.Pop) at same = inr refl
    faulted (Some ops.Free) at same = absurd (let no_such = ap (λ (y : Micro). y.done) same in cc)
    faulted (Some ops.Yield) at same = absurd (let no_such = ap (λ (y : Micro). y.done) same in cc)
    faulted _ at same = absurd at

    pub record IsBeforeEffect : Type 0 where
      pub place : ℕ
      pub copy : copy_at f.pc ≡ Some place
      pub unused : (lock_of (nat_le 8 f.pc) (record f { pc = place })).used ≡ false
      pub yields : is_yield_op (slice_get package_ops f.pc) ≡ false

    stands : IsBeforeEffect
    stands = elim (faulted (slice_get package_ops f.pc) (i.stands.contexts a.0 c i.on.mine).state
        (ap (λ o. micro_at u.shared.state f (is_page_resident seen.pages PACKAGE_PAGE) (list_in f) o) (sym op_is) ∙ is)) [
          | inl push ↦
              let k = has_copy f.pc (ap is_section_op push) in
              record {
                place = k.0;
                copy = k.1;
                unused = push_at (λ i j. (lock_of (nat_le 8 f.pc) (record f { pc = j })).used ≡ false) refl refl f.pc k.0 k.1 push;
                yields = ap is_yield_op push;
              }
          | inr pop ↦
              let k = has_copy f.pc (ap is_section_op pop) in
              record {
                place = k.0;
                copy = k.1;
                unused = pop_at (λ i j. (lock_of (nat_le 8 f.pc) (record f { pc = j })).used ≡ false) refl refl f.pc k.0 k.1 pop;
                yields = ap is_yield_op pop;
              }
        ]

    here : HasLife set.space u.shared (space_at r.state set.space) (stage_of r set.space a life) (view c) life
    here = life-here set.space r u cs i.holds a c life i.on.mine i.on.is

    locks_are : life.locks ≡ lock_of (nat_le 8 f.pc) (record f { pc = stands.place }) ∷ map (lock_of true) fs
    locks_are = here.locks ∙ ap (λ o. locks_from (nat_le 8 f.pc) (at_copy f o) fs) stands.copy

    locked : locks_one (life_of r a) ≡ true
    locked = ap locks_one i.on.is ∙ ap some_lock locks_are

    missing : is_resident (event_begun_at w seen.event p r) set.space PACKAGE_PAGE ≡ false
    missing = ap (λ m. is_page_resident m PACKAGE_PAGE) (sym i.sees.pages) ∙ absent

    pub code-fault : IsFault set e u cs w r p a life (record { state = Code f; sections = fs; work = wk }) seen i PACKAGE_PAGE
    code-fault = record {
      step = ap (λ (y : Micro). coded_by u seen c f (slice_get u.shared.state.code f.pc) y y.done) is;
      for =
          ap
          (λ b. if b && not (is_resident (event_begun_at w seen.event p r) set.space PACKAGE_PAGE) then PACKAGE_PAGE
          else page_touched w r set.space f.thread) locked
          ∙ ap (λ b. if not b then PACKAGE_PAGE else page_touched w r set.space f.thread) missing;
      cause = inr (inr (locked, missing));
      yields = stands.yields;
      looks = refl;
      busy = refl;
      inside = λ now holds there stays_so stands. ap (λ ls. some_lock ls || life.cont || has_hand now (held_with f.thread life)) locks_are;
    }

    -- its first lock is unused, so it may fault there, whatever it owes
    pub code-may_fault : CanFault (event_begun_at w seen.event p r) life (first_lock life)
    code-may_fault = subst (CanFault (event_begun_at w seen.event p r) life) (sym (ap (λ ls. slice_get ls 0) locks_are)) (
      ap (λ o. is_resident (event_begun_at w seen.event p r) o PACKAGE_PAGE) i.on.space
          ∙ missing,
      record { used = stands.unused; cont = λ inherits. here.cont ∙ inherits },
    )

    pub code-locked : some_lock life.locks ≡ true
    code-locked = ap some_lock locks_are

  -- AT A TOUCH
  module _ (t : ThreadNo) (i : IsScene set e u cs w r p a life (record { state = User t; sections = []; work = None }) seen) where
    abbrev d : Context
    d = record { state = User t; sections = []; work = None }

    abbrev b : Block
    b = block_at u.shared.threads t.0

    own : HasLife set.space u.shared (space_at r.state set.space) (stage_of r set.space a life) (view d) life
    own = life-here set.space r u cs i.holds a d life i.on.mine i.on.is

    pub touch-fault : (page : ℕ) → instr_of u.def (block_at u.shared.threads t.0) ≡ Touch page → is_page_resident seen.pages page ≡ false
        → IsFault set e u cs w r p a life (record { state = User t; sections = []; work = None }) seen i page
    touch-fault page is absent =
        let next : next_instr w r.state set.space t ≡ Touch page =
        ap (law_instr w r.state set.space t) (thread_fits set e u cs w r p a life seen t i).pc ∙ instr_is set e u cs w r p a life seen t i ∙ is in
        let none : locks_one (life_of r a) ≡ false = ap locks_one i.on.is ∙ ap some_lock own.locks in
        record {
          step =
              ap
              (λ k. let o = outcome_of u.fetch seen.pages u.shared None t b k in
              used_by (with_shared u o.shared) seen (record { state = User t; sections = []; work = o.work }) t o.answer
              (says_of u.shared.state.space t b seen.pages k)) is
              ∙ ap
              (λ y. let o = touched u.shared None t b u.fetch page y in
              used_by (with_shared u o.shared) seen (record { state = User t; sections = []; work = o.work }) t o.answer
              (if y then records.Ins u.shared.state.space t b.pc ∷ [] else [])) absent;
          for =
              ap
              (λ y. if y && not (is_resident (event_begun_at w seen.event p r) set.space PACKAGE_PAGE) then PACKAGE_PAGE
              else page_touched w r set.space (Some t)) none
              ∙ ap page_in next;
          cause = inr (inl (subst (IsMissed (event_begun_at w seen.event p r) set.space) (sym next) (ap (λ m. is_page_resident m page) (sym i.sees.pages) ∙ absent)));
          yields = refl;
          looks = refl;
          busy = refl;
          inside =
              λ now holds there stays_so stands. has-left set seen.event _ cs stands set.space now holds a (User t) [] None i.on.mine
              (held_with (Some t) life) there stays_so refl refl;
        }

    -- it has no lock
    pub touch-may_fault : CanFault (event_begun_at w seen.event p r) life (first_lock life)
    touch-may_fault = subst (CanFault (event_begun_at w seen.event p r) life) (sym (ap (λ ls. slice_get ls 0) own.locks)) tt

    abbrev pub Blocked : Option ℕ → Instr → Type 0
    Blocked page k = ((m : ℕ) × ((k ≡ Touch m) × (is_page_resident seen.pages m ≡ false))) ⊎ ((m : ℕ) × (k ≡ Io m))

    told_not : (sync : Shared) (c : Block) (y : SyncAnswer) (length : ℕ) (page : Option ℕ)
        → (told_by sync None t c y).answer ≡ rans.Blocks length page → ⊥
    told_not sync c answer.Goes length page e = cc
    told_not sync c _ length page e = cc

    forked_not : (reg : Reg) (program : ℕ) (y : Option ℕ) (length : ℕ) (page : Option ℕ)
        → (forked u.shared None t b reg program y).answer ≡ rans.Blocks length page → ⊥
    forked_not reg program None length page e = cc
    forked_not reg program (Some n) length page e = cc

    touched_so : (m : ℕ) (y : Bool) → is_page_resident seen.pages m ≡ y → (length : ℕ) (page : Option ℕ)
        → (touched u.shared None t b u.fetch m y).answer ≡ rans.Blocks length page → Blocked page (Touch m)
    touched_so m true at length page e = absurd cc
    touched_so m false at length page e = inl (m, (refl, at))

    pub blocked_so : (k : Instr) (length : ℕ) (page : Option ℕ) → (outcome_of u.fetch seen.pages u.shared None t b k).answer ≡ rans.Blocks length page
        → Blocked page k
    blocked_so (Fork reg program) length page e = absurd (forked_not reg program _ length page e)
    blocked_so (Join reg) length page e = absurd (told_not _ _ _ length page e)
    blocked_so (Lock m) length page e = absurd (told_not _ _ _ length page e)
    blocked_so (Unlock m) length page e = absurd (told_not _ _ _ length page e)
    blocked_so (Wait k) length page e = absurd (told_not _ _ _ length page e)
    blocked_so (Signal k) length page e = absurd (told_not _ _ _ length page e)
    blocked_so (Io m) length page e = inr (m, refl)
    blocked_so (Touch m) length page e = touched_so m (is_page_resident seen.pages m) refl length page e
    blocked_so _ length page e = absurd cc
