-- An instruction after which its thread goes on, waits or is done, is legal.
use Rattle.std.proofs.Common.{◌≡◌, ◌≢◌, ℕ, ◌≤◌, ◌<◌, Bool, true, false, not, cond, ◌||◌, ◌&&◌, nat_lt, List, [], ◌∷◌, length, slice_index_or, Option, Some, None, refl, sym, ap, ◌∙◌, subst, arith}
use Rattle.std.specs.Prelude.{if◌then◌else◌}
use Rattle.std.proofs.lemmas.List.{get_or-set_same, get_or-set_other}
use Rattle.std.proofs.lemmas.Option.{same_Some}
use Rattle.sa_base.specs.declared.context.Seen.{Seen}
use Rattle.sa_base.specs.declared.number.ActNo.{ActNo}
use Rattle.sa_base.specs.declared.number.ProcNo.{ProcNo}
use Rattle.sa_base.specs.declared.number.ThreadNo.{ThreadNo}
use Rattle.sa_base.specs.declared.record.Record.{Record}
use Rattle.sa_base.specs.declared.record.Record.TheVariants as records
use Rattle.sa_base.specs.Pages.{has_page}
use Rattle.sa_lemmas.specs.Function.{put}
use Rattle.sa_instr.specs.Local.{instr_at, local_answer}
use Rattle.sa_instr.specs.Regs.{reg_value}
use Rattle.sa_instr.specs.declared.instr.Instr.{Instr}
use Rattle.sa_instr.specs.declared.instr.Instr.TheVariants.{Compute, Set, Add, Sub, Jnz, Load, Store, Out, Fork, Join, Lock, Unlock, Wait, Signal, Io, Touch, End}
use Rattle.sa_instr.specs.declared.instr.Reg.{Reg}
use Rattle.sa_spaces.specs.Space.{SpaceView}
use Rattle.sa_spaces.specs.Workload.{WorkloadView}
use Rattle.sa_lists.specs.ReadyView.{next_made}
use Rattle.sa_code.specs.Micro.{is_resident as is_page_resident}
use Rattle.sa_sync.specs.declared.answer.SyncAnswer.{SyncAnswer}
use Rattle.sa_sync.specs.declared.answer.SyncAnswer.TheVariants as answer
use Rattle.sa_fast.specs.Instruction.{Outcome, instr_of, outcome_of, told_by, forked, touched, next_of, run_says, says_of}
use Rattle.sa_fast.specs.Rest.{one_where, is_unmade, is_carried as is_kept, place_at}
use Rattle.sa_fast.specs.Threads.{unmade, block_at, with_block, is_loaded}
use Rattle.sa_fast.specs.Work.{work_of}
use Rattle.sa_fast.specs.declared.instruction.Ran.{Ran}
use Rattle.sa_fast.specs.declared.instruction.Ran.TheVariants as rans
use Rattle.sa_fast.specs.declared.shared.Shared.{Shared}
use Rattle.sa_fast.specs.declared.threads.Block.{Block}
use Rattle.sa_fast.specs.declared.threads.KeptPlace.{KeptPlace}
use Rattle.sa_fast.specs.declared.threads.KeptPlace.TheVariants as fast
use Rattle.sa_abstract.specs.Calls.{Contexts, Stepped}
use Rattle.sa_abstract.specs.Keeps.{IsStepped}
use Rattle.sa_abstract.specs.Setting.{Setting}
use Rattle.sa_abstract.specs.declared.answer.Step.TheVariants as asked
use Rattle.sa_driven_model.specs.declared.context.DrivenContext.{DrivenContext}
use Rattle.sa_driven_model.specs.declared.space.DrivenSpace.{DrivenSpace}
use Rattle.sa_driven_model.specs.Context.{settled, goes_on}
use Rattle.sa_driven_model.specs.Stands.{driven_stands}
use Rattle.sa_driven_model.specs.Step.{asks_for, carries, after_ins, after_run, is_within_thread, is_next_local, ran_by}
use Rattle.sa_driven_model.specs.Threads.{has, with_all}
use Rattle.sa_laws.specs.Any.{is_inside_any, has_heard_hand, is_tied}
use Rattle.sa_laws.specs.History.{after_records, is_running_or_blocked, settles}
use Rattle.sa_laws.specs.Life.{Life, with_hand}
use Rattle.sa_laws.specs.Readings.{Readings}
use Rattle.sa_laws.specs.Record.{after_record}
use Rattle.sa_laws.specs.State.{State, space_at, thread_at, thread_in, space_def, program_len, instr_of as law_instr, is_active}
use Rattle.sa_laws.specs.Step.{AreSteps, IsTouched, IsValueOf}
use Rattle.sa_laws.specs.Turns.{IsInsOf}
use Rattle.sa_laws.specs.declared.place.Place.{Place}
use Rattle.sa_laws.specs.declared.place.Place.TheVariants as place
use Rattle.sa_user_laws.specs.Scene.{event_begun_at}
use Rattle.sa_user_laws.specs.Steps.{event_with}
use Rattle.sa_fast_laws.proofs.instructions.Effects.{IsThere, AnswerIs}
use Rattle.sa_fast_laws.proofs.relation.Places.{same-threads, load-moves}
use Rattle.sa_fast_laws.proofs.user_steps.UserMoves.{IsCalm, IsPlain, plain, out_of, outs, outs_plain}
use Rattle.sa_fast_laws.specs.FastFits.{FitsThread}
use Rattle.sa_fast_laws.specs.Stage.{is_gone, is_running}
use Rattle.sa_driven_laws.specs.DrivenFits.{Holds}
use Rattle.sa_driven_laws.proofs.Inside.{inside-goes}
use Rattle.sa_driven_laws.proofs.InsFits.{fits_now, sits, made, inside, kept, runs_there, space, changes, place_here, place_there, kept_here, kept_there, loads, actives, lives_now, hand-now, roused}
use Rattle.sa_driven_laws.proofs.InsFits as ins
use Rattle.sa_driven_laws.proofs.Moves.{IsLegal, move-legal}
use Rattle.sa_driven_laws.proofs.Moves as moves
use Rattle.sa_driven_laws.proofs.Replies.{own-life, settled-inside, unlowered}
use Rattle.sa_driven_laws.proofs.Runners.{made-below}
use Rattle.sa_driven_laws.proofs.Scenes.{IsScene}
use Rattle.sa_driven_laws.proofs.Scenes as scene
use Rattle.sa_driven_laws.proofs.Turned.{IsTurned}
use Rattle.sa_driven_laws.proofs.Changed.{life-here}

-- AN INSTRUCTION leaves its thread in its program.
module _ (fetch pages : ℕ) (x : Shared) (t : ThreadNo) (b : Block) (inside : t.0 < length x.threads) where
  set-one : (c : Block) → c.program ≡ b.program → (block_at (with_block x.threads t.0 c) t.0).program ≡ b.program
  set-one c same = ap (λ (z : Block). z.program) (get_or-set_same x.threads t.0 c unmade inside) ∙ same

  told-program : (y : Shared) (c : Block) (z : SyncAnswer) → y.threads ≡ x.threads → c.program ≡ b.program
      → (block_at (told_by y None t c z).shared.threads t.0).program ≡ b.program
  told-program y c answer.Goes is same = ap (λ bs. (block_at (with_block bs t.0 c) t.0).program) is ∙ set-one c same
  told-program y c answer.Waits is same = ap (λ bs. (block_at (with_block bs t.0 (record c { place = fast.Waiting })) t.0).program) is ∙ set-one _ same
  told-program y c (answer.Wakes v) is same = ap (λ bs. (block_at (with_block bs t.0 c) t.0).program) is ∙ set-one c same

  forked-program : (reg : Reg) (program : ℕ) (n : Option ℕ) → ((m : ℕ) → n ≡ Some m → m ≢ t.0)
      → (block_at (forked x None t b reg program n).shared.threads t.0).program ≡ b.program
  forked-program reg program None other = set-one _ refl
  forked-program reg program (Some m) other =
      ap (λ (z : Block). z.program) (get_or-set_other (with_block x.threads t.0 _) m t.0 _ unmade (λ same. other m refl (sym same))) ∙ set-one _ refl

  touched-program : (page : ℕ) (there : Bool) → (block_at (touched x None t b fetch page there).shared.threads t.0).program ≡ b.program
  touched-program page true = set-one _ refl
  touched-program page false = set-one _ refl

  next-is : (m : ℕ) → next_made x.state.lists ≡ Some m → m ≡ x.state.lists.made
  next-is m is = elim (nat_lt x.state.lists.made x.state.lists.threads) as
      (λ q. cond q (Some x.state.lists.made) None ≡ Some m → m ≡ x.state.lists.made) [
        | true ↦ λ at. sym (same_Some x.state.lists.made m at)
        | false ↦ λ at. absurd cc
      ] is

  next-other : t.0 < x.state.lists.made → (m : ℕ) → next_made x.state.lists ≡ Some m → m ≢ t.0
  next-other less m is same = let one = next-is m is in absurd (omega (arith, one, same, less))

  told-made : (y : Shared) (c : Block) (z : SyncAnswer) → y.state.lists.made ≡ x.state.lists.made
      → x.state.lists.made ≤ (told_by y None t c z).shared.state.lists.made
  told-made y c answer.Goes is = omega (arith, is)
  told-made y c answer.Waits is = omega (arith, is)
  told-made y c (answer.Wakes v) is = omega (arith, is)

  forked-made : (reg : Reg) (program : ℕ) (n : Option ℕ) → ((m : ℕ) → n ≡ Some m → m ≡ x.state.lists.made)
      → x.state.lists.made ≤ (forked x None t b reg program n).shared.state.lists.made
  forked-made reg program None is = omega arith
  forked-made reg program (Some m) is = let one = is m refl in omega (arith, one)

  touched-made : (page : ℕ) (there : Bool) → x.state.lists.made ≤ (touched x None t b fetch page there).shared.state.lists.made
  touched-made page true = omega arith
  touched-made page false = omega arith

  pub made-more : (k : Instr) → x.state.lists.made ≤ (outcome_of fetch pages x None t b k).shared.state.lists.made
  made-more (Fork reg program) = forked-made reg program (next_made x.state.lists) next-is
  made-more (Join reg) = told-made _ _ _ refl
  made-more (Lock m) = told-made _ _ _ refl
  made-more (Unlock m) = told-made _ _ _ refl
  made-more (Wait n) = told-made _ _ _ refl
  made-more (Signal n) = told-made _ _ _ refl
  made-more (Touch page) = touched-made page (is_page_resident pages page)
  made-more _ = omega arith

  pub program-kept : t.0 < x.state.lists.made → (k : Instr) → (block_at (outcome_of fetch pages x None t b k).shared.threads t.0).program ≡ b.program
  program-kept less (Fork reg program) = forked-program reg program (next_made x.state.lists) (next-other less)
  program-kept less (Join reg) = told-program _ _ _ refl refl
  program-kept less (Lock m) = told-program _ _ _ refl refl
  program-kept less (Unlock m) = told-program _ _ _ refl refl
  program-kept less (Wait n) = told-program _ _ _ refl refl
  program-kept less (Signal n) = told-program _ _ _ refl refl
  program-kept less (Touch page) = touched-program page (is_page_resident pages page)
  program-kept less Compute = set-one _ refl
  program-kept less (Set reg n) = set-one _ refl
  program-kept less (Add reg other) = set-one _ refl
  program-kept less (Sub reg other) = set-one _ refl
  program-kept less (Jnz reg target) = set-one _ refl
  program-kept less (Load reg cell) = set-one _ refl
  program-kept less (Store reg cell) = set-one _ refl
  program-kept less (Out reg) = set-one _ refl
  program-kept less (Io n) = set-one _ refl
  program-kept less End = set-one _ refl

  pub out-regs : (k : Instr) (reg : Reg) → k ≡ Out reg → (block_at (outcome_of fetch pages x None t b k).shared.threads t.0).regs ≡ b.regs
  out-regs k reg is = ap (λ z. (block_at (outcome_of fetch pages x None t b z).shared.threads t.0).regs) is
      ∙ ap (λ (z : Block). z.regs) (get_or-set_same x.threads t.0 (next_of b) unmade inside)

module _ (set : Setting) (e : ℕ) (u : DrivenSpace) (cs : Contexts DrivenContext) (w : WorkloadView) (r : Readings) (p : ProcNo) (a : ActNo) (life : Life)
    (c : DrivenContext) (seen : Seen) (i : IsScene set e u cs w r p a life c seen) (t : ThreadNo) (own : c.thread ≡ Some t) where
  abbrev r0 : Readings
  r0 = event_begun_at w seen.event p r

  abbrev b : Block
  b = block_at u.base.shared.threads t.0

  abbrev pub j : Instr
  j = instr_of u.base.def (block_at u.base.shared.threads t.0)

  abbrev pub o : Outcome
  o = ins.o set e u cs w r p a life c seen i t own

  abbrev pub ws : List ℕ
  ws = work_of o.shared.works o.work

  abbrev pub v : DrivenSpace
  v = after_run u o

  abbrev pub d : DrivenContext
  d = record c { hand = with_all c.hand ws }

  k0 : Holds set.space (event_begun_at w seen.event p r) u.base.shared cs
  k0 = moves.k0 set e u cs w r p a life c seen i

  pub t_made : t.0 < u.base.shared.state.lists.made
  t_made = made set e u cs w r p a life c seen i t own

  pub t_inside : t.0 < length u.base.shared.threads
  t_inside = inside set e u cs w r p a life c seen i t own

  pub thread_fits : FitsThread (block_at u.base.shared.threads t.0) (thread_at r.state set.space t)
  thread_fits = k0.space.threads t t_made

  pub def : space_def w set.space ≡ u.base.def
  def = scene.def set e u cs w r p a life c seen i

  pub law-is : (y : State) → (thread_at y set.space t).program ≡ b.program → law_instr w y set.space t b.pc ≡ j
  law-is y same =
      ap (λ m. instr_at (slice_index_or (space_def w set.space).programs m []) b.pc) same
      ∙ ap (λ (z : SpaceView). instr_at (slice_index_or z.programs b.program []) b.pc) def

  pub instr-before : law_instr w r.state set.space t (block_at u.base.shared.threads t.0).pc ≡ j
  instr-before = law-is r.state thread_fits.program

  abbrev pub There : Instr → Type 0
  There k = IsThere u.base.shared (space_at r.state set.space).threads None t b (thread_at r.state set.space t).place
      (fits_now set e u cs w r p a life c seen i t own) (sits set e u cs w r p a life c seen i t own) (made set e u cs w r p a life c seen i t own)
      (inside set e u cs w r p a life c seen i t own) seen.pages k

  -- the same after it
  module _ (can : There j) (q : Readings) (state : q.state ≡ (ins.q set e u cs w r p a life c seen i t own).state) where
    pub made-after : t.0 < o.shared.state.lists.made
    made-after = let all = made-more u.base.fetch seen.pages u.base.shared t b t_inside j in let less = t_made in omega (arith, all, less)

    pub after-fits : FitsThread (block_at o.shared.threads t.0) (thread_at q.state set.space t)
    after-fits = subst (λ y. FitsThread (block_at o.shared.threads t.0) (thread_at y set.space t)) (sym state)
        ((space set e u cs w r p a life c seen i t own can).threads t made-after)

    pub instr-after : law_instr w q.state set.space t (block_at u.base.shared.threads t.0).pc ≡ j
    instr-after = law-is q.state (after-fits.program ∙ program-kept u.base.fetch seen.pages u.base.shared t b t_inside t_made j)

  module _ (calm : IsCalm o.answer) where
    is_plain : IsPlain set.space t b seen.pages j
    is_plain = plain u.base.fetch seen.pages u.base.shared None set.space t b j calm

    there-by : (k : Instr) → j ≡ k → There k
    there-by Compute is = tt
    there-by (Set reg m) is = tt
    there-by (Add reg other) is = tt
    there-by (Sub reg other) is = tt
    there-by (Jnz reg target) is = tt
    there-by (Load reg cell) is = tt
    there-by (Store reg cell) is = tt
    there-by (Out reg) is = tt
    there-by (Fork reg program) is = tt
    there-by (Join reg) is = tt
    there-by (Lock m) is = tt
    there-by (Unlock m) is = tt
    there-by (Wait k) is = tt
    there-by (Signal k) is = tt
    there-by (Io m) is = tt
    there-by (Touch page) is = is_plain.there page is
    there-by End is = tt

    can : There j
    can = there-by j refl

    touched_is : IsTouched r0 set.space (law_instr w r.state set.space t b.pc)
    touched_is = subst (IsTouched r0 set.space) (sym instr-before) (by j refl) where
      by : (k : Instr) → j ≡ k → IsTouched r0 set.space k
      by Compute is = tt
      by (Set reg m) is = tt
      by (Add reg other) is = tt
      by (Sub reg other) is = tt
      by (Jnz reg target) is = tt
      by (Load reg cell) is = tt
      by (Store reg cell) is = tt
      by (Out reg) is = tt
      by (Fork reg program) is = tt
      by (Join reg) is = tt
      by (Lock m) is = tt
      by (Unlock m) is = tt
      by (Wait k) is = tt
      by (Signal k) is = tt
      by (Io m) is = tt
      by (Touch page) is = ap (λ m. has_page m page) (sym i.sees.pages) ∙ is_plain.there page is
      by End is = tt

    abbrev x : Record
    x = records.Ins set.space t (block_at u.base.shared.threads t.0).pc

    abbrev q : Readings
    q = after_record w seen.event p (event_begun_at w seen.event p r) (records.Ins set.space t (block_at u.base.shared.threads t.0).pc)

    abbrev now : Life
    now = with_hand (roused set e u cs w r p a life c seen i t own can) life

    abbrev given : List Record
    given = outs set.space t (out_of b j)

    abbrev last_of : Readings
    last_of = after_records w seen.event p q given

    out-needs : (k : Instr) → j ≡ k → AreSteps w seen.event p q (outs set.space t (out_of b k))
    out-needs (Out reg) is =
        let fits = after-fits can q refl in
        let regs : (thread_at q.state set.space t).regs ≡ b.regs = fits.regs ∙ out-regs u.base.fetch seen.pages u.base.shared t b t_inside j reg is in (
          (
            i.on.owner,
            (
              refl,
              refl,
              subst (λ k. IsValueOf (thread_at q.state set.space t).regs k (reg_value b.regs reg)) (sym (instr-after can q refl ∙ is))
                  (ap (λ z. reg_value z reg) (sym regs)),
            ),
          ),
          tt,
        )
    out-needs _ is = tt

    needs : AreSteps w seen.event p r0 (x ∷ given)
    needs = (
      record {
        owned = i.on.owner;
        runs = runs_there set e u cs w r p a life c seen i t own;
        pc = thread_fits.pc;
        within = let at = (i.stands.parts.at t.0 t_made).pc in
            let long : program_len w r.state set.space t ≡ _ =
            ap (λ m. length (slice_index_or (space_def w set.space).programs m [])) thread_fits.program
            ∙ ap (λ (z : SpaceView). length (slice_index_or z.programs b.program [])) def in omega (arith, at, long);
        page = touched_is;
      },
      out-needs j refl,
    )

    -- what is read after the `out` is what was read before it
    out-same : (k : Option ℕ)
        → ((after_records w seen.event p q (outs set.space t k)).state ≡ q.state) × ((after_records w seen.event p q (outs set.space t k)).demands ≡ r.demands)
        × ((after_records w seen.event p q (outs set.space t k)).taken ≡ r.taken)
    out-same None = (refl, refl, refl)
    out-same (Some m) = (refl, refl, refl)

    out-turned : (k : Option ℕ) (y : Shared) (new : DrivenContext) → IsTurned set.space r0 q u.base.shared y a c new now
        → IsTurned set.space r0 (after_records w seen.event p q (outs set.space t k)) u.base.shared y a c new now
    out-turned None y new z = z
    out-turned (Some m) y new z = record {
      space = z.space;
      load = z.load;
      was = z.was;
      old = z.old;
      lives = z.lives;
      proc = z.proc;
      of = z.of;
      untold = z.untold;
      running = z.running;
      own = z.own;
      places = z.places;
    }

    -- WHOEVER CARRIES IT THEN
    record Ends (new : DrivenContext) : Type 0 where
      pub locks : new.locks ≡ c.locks
      pub continues : new.continues ≡ c.continues
      pub hand : new.hand ≡ with_all c.hand ws
      pub alike : one_where (is_loaded (changes set e u cs w r p a life c seen i t own can).block.place)
          ≡ one_where (is_active (changes set e u cs w r p a life c seen i t own can).changed.place)
      pub carried : (n : ThreadNo) → new.thread ≡ Some n
          → (n ≡ t) × ((thread_in (space_at q.state set.space) t).place ≡ place.Running p) × (place_at o.shared t.0 ≡ fast.Running)

    ins-turned : (new : DrivenContext) → Ends new → IsTurned set.space r0 q u.base.shared v.base.shared a c new now
    ins-turned new z =
        let l = life-here set.space r0 u.base.shared cs k0 a c life i.on.mine i.on.is in
        record {
          space = let y = space set e u cs w r p a life c seen i t own can in record { made = y.made; threads = y.threads; sync = y.sync };
          load =
              let moves = load-moves r0 q set.space
              (same-threads r0 q a life now i.on.is (lives_now set e u cs w r p a life c seen i t own can) refl) refl in
              let two = loads set e u cs w r p a life c seen i t own can in
              let one = actives set e u cs w r p a life c seen i t own can in
              let same = z.alike in
              let was = k0.load in omega (arith, moves, one, two, same, was);
          was = life;
          old = i.on.is;
          lives = lives_now set e u cs w r p a life c seen i t own can;
          proc = refl;
          of = i.on.space;
          untold = refl;
          running = refl;
          own = own-life set e u cs w r p a life c seen i v.base.shared (space_at q.state set.space) now new (record {
            space = refl;
            proc = refl;
            thread = refl;
            locks = l.locks ∙ sym z.locks;
            cont = l.cont ∙ sym z.continues;
            hand = λ n. hand-now set e u cs w r p a life c seen i t own can n ∙ sym (ap (λ hs. has hs n) z.hand);
          }) (λ n at. let its = z.carried n at in (
            ap (λ m. (thread_in (space_at q.state set.space) m).place) its.0 ∙ its.1,
            ap (λ (m : ThreadNo). place_at o.shared m.0) its.0 ∙ its.2,
          ));
          places = λ n some other.
              let ne : n.0 ≢ t.0 = other t own in
              let less = made-below set e u cs i.stands n.0 (carried-made-is (place_at u.base.shared n.0) some) in
              (place_there set e u cs w r p a life c seen i t own can n ne less, kept_there set e u cs w r p a life c seen i t own can n ne less);
        } where
          carried-made-is : (kp : KeptPlace) → is_kept kp ≡ true → is_unmade kp ≡ false
          carried-made-is fast.Running is = refl
          carried-made-is fast.Blocked is = refl
          carried-made-is _ is = absurd cc

    low : c.lowers ≡ false
    low = unlowered set e u cs w r p a life c seen i

    abbrev Legal : Stepped DrivenSpace DrivenContext → Type 0
    Legal st = IsLegal w set r p seen.event a cs st

    says-are : run_says u.base.def seen.pages u.base.shared t ≡ x ∷ given
    says-are = ap (λ z. says_of z t b seen.pages j) (scene.space set e u cs w r p a life c seen i) ∙ is_plain.says

    settled-by : (kp : Place) (last : Readings) → last.state ≡ q.state → (thread_in (space_at q.state set.space) t).place ≡ kp
        → settles r last x ≡ not (is_running_or_blocked kp)
    settled-by kp last state at = ap (λ y. not (is_running_or_blocked (thread_at y set.space t).place)) state ∙ ap (λ z. not (is_running_or_blocked z)) at

    table : IsInsOf (law_instr w r.state set.space t (block_at u.base.shared.threads t.0).pc) given
    table = subst (λ k. IsInsOf k given) (sym instr-before) is_plain.table

    abbrev Well : Stepped DrivenSpace DrivenContext → Type 0
    Well st = IsStepped driven_stands set seen cs a.0 st

    -- IT GOES ON
    module _ (goes : o.answer ≡ rans.Goes) where
      goes-so : ((changes set e u cs w r p a life c seen i t own can).block.place ≡ b.place)
          × ((changes set e u cs w r p a life c seen i t own can).changed.place ≡ (thread_at r.state set.space t).place)
      goes-so = subst (λ y. AnswerIs u.base.shared (space_at r.state set.space).threads None t b (thread_at r.state set.space t).place
          (fits_now set e u cs w r p a life c seen i t own) (sits set e u cs w r p a life c seen i t own) (made set e u cs w r p a life c seen i t own)
          (inside set e u cs w r p a life c seen i t own) y (changes set e u cs w r p a life c seen i t own can).block.place
          (changes set e u cs w r p a life c seen i t own can).changed.place) goes (changes set e u cs w r p a life c seen i t own can).answers

      runs-now : (thread_in (space_at q.state set.space) t).place ≡ place.Running p
      runs-now = place_here set e u cs w r p a life c seen i t own can ∙ goes-so.1 ∙ runs_there set e u cs w r p a life c seen i t own

      kept-now : place_at o.shared t.0 ≡ fast.Running
      kept-now = kept_here set e u cs w r p a life c seen i t own can ∙ goes-so.0 ∙ kept set e u cs w r p a life c seen i t own

      goes-ends : (new : DrivenContext) → new.thread ≡ c.thread → new.locks ≡ c.locks → new.continues ≡ c.continues → new.hand ≡ with_all c.hand ws → Ends new
      goes-ends new thread locks cont hand = record {
        locks = locks;
        continues = cont;
        hand = hand;
        alike = ap (λ z. one_where (is_loaded z)) (goes-so.0 ∙ kept set e u cs w r p a life c seen i t own)
            ∙ sym (ap (λ z. one_where (is_active z)) (goes-so.1 ∙ runs_there set e u cs w r p a life c seen i t own));
        carried = λ n at. (same_Some n t (sym at ∙ thread ∙ own), runs-now, kept-now);
      }

      goes-legal : (local : Bool) → is_next_local u t ≡ local → Well (asks_for v (after_ins v d local) (x ∷ given) asked.Did)
          → Legal (asks_for v (after_ins v d local) (x ∷ given) asked.Did)
      goes-legal local test well = by local test well where
        local-at : (last : Readings) → last.state ≡ last_of.state → is_within_thread (local_answer (law_instr w last.state set.space t b.pc)) ≡ is_next_local u t
        local-at last state = ap (λ k. is_within_thread (local_answer k)) (instr-after can last (state ∙ (out-same (out_of b j)).0))

        by : (local : Bool) → is_next_local u t ≡ local → Well (asks_for v (after_ins v d local) (x ∷ given) asked.Did)
            → Legal (asks_for v (after_ins v d local) (x ∷ given) asked.Did)
        by true test well =
            move-legal set e u cs w r p a life c seen i x given v d now (record {
              first = refl;
              no_up = (outs_plain set.space t (out_of b j)).0;
              needs = needs;
              turned_so = out-turned (out_of b j) v.base.shared d (ins-turned d (goes-ends d refl refl refl refl));
              table = table;
              heard = λ behind. tt;
              demands = (out-same (out_of b j)).1;
              taken = (out-same (out_of b j)).2;
              lowers = low;
              inside = λ closing last z.
                  ap (λ y. is_inside_any w r (event_with seen.event p (x ∷ given) closing) last y now)
                  (settled-by (place.Running p) last (z.state ∙ (out-same (out_of b j)).0) runs-now)
                  ∙ ap (λ y. if y then now.inside else (has_heard_hand last now || (not false && is_tied now))) (local-at last z.state ∙ test)
                  ∙ (i.fits.rest a c life i.on.mine i.on.is).inside (ap is_running (i.fits.holds.runs p a life i.on.runs i.on.is i.on.space).2);
            }) well
        by false test well =
            let new = goes_on v d in
            move-legal set e u cs w r p a life c seen i x given v new now (record {
              first = refl;
              no_up = (outs_plain set.space t (out_of b j)).0;
              needs = needs;
              turned_so = out-turned (out_of b j) v.base.shared new (ins-turned new (goes-ends new refl refl refl refl));
              table = table;
              heard = λ behind. tt;
              demands = (out-same (out_of b j)).1;
              taken = (out-same (out_of b j)).2;
              lowers = low;
              inside = λ closing last z.
                  ap (λ y. is_inside_any w r (event_with seen.event p (x ∷ given) closing) last y now)
                  (settled-by (place.Running p) last (z.state ∙ (out-same (out_of b j)).0) runs-now)
                  ∙ inside-goes set seen.event v (put cs a.0 (Some new)) z.stands last z.holds a new z.mine now z.there (ap is_gone z.stage) w r
                  (event_with seen.event p (x ∷ given) closing) (local-at last z.state ∙ test) refl;
            }) well

    -- IT WAITS, or is done
    module _ (leaves : o.answer ≡ rans.Leaves) where
      leaves-so : (is_loaded (changes set e u cs w r p a life c seen i t own can).block.place ≡ false)
          × (is_active (changes set e u cs w r p a life c seen i t own can).changed.place ≡ false)
          × (is_running_or_blocked (changes set e u cs w r p a life c seen i t own can).changed.place ≡ false)
      leaves-so = subst (λ y. AnswerIs u.base.shared (space_at r.state set.space).threads None t b (thread_at r.state set.space t).place
          (fits_now set e u cs w r p a life c seen i t own) (sits set e u cs w r p a life c seen i t own) (made set e u cs w r p a life c seen i t own)
          (inside set e u cs w r p a life c seen i t own) y (changes set e u cs w r p a life c seen i t own can).block.place
          (changes set e u cs w r p a life c seen i t own can).changed.place) leaves (changes set e u cs w r p a life c seen i t own can).answers

      leaves-legal : Well (asks_for v (settled v seen (carries d None)) (x ∷ given) asked.Did)
          → Legal (asks_for v (settled v seen (carries d None)) (x ∷ given) asked.Did)
      leaves-legal well =
          let new = settled v seen (carries d None) in
          move-legal set e u cs w r p a life c seen i x given v new now (record {
            first = refl;
            no_up = (outs_plain set.space t (out_of b j)).0;
            needs = needs;
            turned_so = out-turned (out_of b j) v.base.shared new (ins-turned new (record {
              locks = refl;
              continues = refl;
              hand = refl;
              alike = ap one_where leaves-so.0 ∙ sym (ap one_where leaves-so.1);
              carried = λ n at. absurd cc;
            }));
            table = table;
            heard = λ behind. tt;
            demands = (out-same (out_of b j)).1;
            taken = (out-same (out_of b j)).2;
            lowers = low;
            inside = λ closing last z.
                ap (λ y. is_inside_any w r (event_with seen.event p (x ∷ given) closing) last y now)
                (settled-by _ last (z.state ∙ (out-same (out_of b j)).0) (place_here set e u cs w r p a life c seen i t own can) ∙ ap not leaves-so.2)
                ∙ settled-inside set e u cs w r p a life c seen i x given v new now refl last_of closing last z;
          }) well

    -- THE STEP, by its answer
    pub calm-legal : (answer : Ran) → o.answer ≡ answer → IsCalm answer
        → Well (ran_by v seen d (is_next_local u t) answer (run_says u.base.def seen.pages u.base.shared t))
        → Legal (ran_by v seen d (is_next_local u t) answer (run_says u.base.def seen.pages u.base.shared t))
    calm-legal rans.Goes is so well = subst (λ ys. Legal (ran_by v seen d (is_next_local u t) rans.Goes ys)) (sym says-are)
        (goes-legal is (is_next_local u t) refl (subst (λ ys. Well (ran_by v seen d (is_next_local u t) rans.Goes ys)) says-are well))
    calm-legal rans.Leaves is so well = subst (λ ys. Legal (ran_by v seen d (is_next_local u t) rans.Leaves ys)) (sym says-are)
        (leaves-legal is (subst (λ ys. Well (ran_by v seen d (is_next_local u t) rans.Leaves ys)) says-are well))
    calm-legal (rans.Blocks n page) is so well = absurd so
