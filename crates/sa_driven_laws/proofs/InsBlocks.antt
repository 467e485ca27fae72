-- An instruction that blocks is legal: the touch of an absent page, and an I/O.
use Rattle.std.proofs.Common.{◌≡◌, ◌≢◌, ℕ, ◌<◌, Bool, true, false, not, ◌||◌, ◌&&◌, List, [], ◌∷◌, ◌++◌, length, length-set, slice_index_or, Option, Some, None, is_some, option_map, refl, sym, ap, ◌∙◌, subst, inl, inr, ◌⊎◌, arith}
use Rattle.std.specs.Prelude.{if◌then◌else◌}
use Rattle.std.proofs.lemmas.Bool.{cases_eq, cases_lt, eq-eqb}
use Rattle.std.proofs.lemmas.List.{get_or-set_same, get_or_past}
use Rattle.std.proofs.lemmas.Option.{same_Some}
use Rattle.sa_base.specs.declared.context.Seen.{Seen}
use Rattle.sa_base.specs.declared.limits.TheConstants.{PACKAGE_PAGE}
use Rattle.sa_base.specs.declared.number.ActNo.{ActNo}
use Rattle.sa_base.specs.declared.number.IoNo.{IoNo}
use Rattle.sa_base.specs.declared.number.ProcNo.{ProcNo}
use Rattle.sa_base.specs.declared.number.ThreadNo.{ThreadNo}
use Rattle.sa_base.specs.declared.record.Note.TheVariants.{Blocked}
use Rattle.sa_base.specs.declared.record.Record.{Record}
use Rattle.sa_base.specs.declared.record.Record.TheVariants as records
use Rattle.sa_lemmas.proofs.FunctionUpdates.{put-same, put-other, put-put}
use Rattle.sa_lemmas.specs.Function.{put}
use Rattle.sa_instr.specs.declared.instr.Instr.{Instr}
use Rattle.sa_instr.specs.declared.instr.Instr.TheVariants.{Compute, Set, Add, Sub, Jnz, Load, Store, Out, Fork, Join, Lock, Unlock, Wait, Signal, Io, Touch, End}
use Rattle.sa_spaces.specs.Workload.{WorkloadView}
use Rattle.sa_code.specs.Micro.{is_resident as is_page_resident}
use Rattle.sa_sync.specs.declared.answer.SyncAnswer.{SyncAnswer}
use Rattle.sa_sync.specs.declared.answer.SyncAnswer.TheVariants as answer
use Rattle.sa_lists.specs.ReadyView.{next_made}
use Rattle.sa_fast.specs.Instruction.{Outcome, instr_of, outcome_of, told_by, forked, touched, blocks}
use Rattle.sa_fast.specs.Rest.{one_where, place_at}
use Rattle.sa_fast.specs.Threads.{block_at, is_loaded}
use Rattle.sa_fast.specs.Work.{work_of}
use Rattle.sa_fast.specs.declared.instruction.Ran.{Ran}
use Rattle.sa_fast.specs.declared.instruction.Ran.TheVariants as rans
use Rattle.sa_fast.specs.declared.shared.Shared.{Shared}
use Rattle.sa_fast.specs.declared.threads.Block.{Block}
use Rattle.sa_fast.specs.declared.threads.KeptPlace.TheVariants as fast
use Rattle.sa_abstract.specs.Calls.{Contexts, Stepped}
use Rattle.sa_abstract.specs.Setting.{Setting}
use Rattle.sa_abstract.specs.declared.answer.Step.TheVariants as asked
use Rattle.sa_package_model.specs.Rules.{placed}
use Rattle.sa_driven_model.specs.declared.context.DrivenContext.{DrivenContext}
use Rattle.sa_driven_model.specs.declared.space.DrivenSpace.{DrivenSpace}
use Rattle.sa_driven_model.specs.Step.{asks_for, faults, page_of, after_run, ran_by}
use Rattle.sa_driven_model.specs.Threads.{has, with_all}
use Rattle.sa_laws.specs.Any.{is_inside_any}
use Rattle.sa_laws.specs.History.{with_step}
use Rattle.sa_laws.specs.Life.{Life, has_lock, held_with, with_hand}
use Rattle.sa_laws.specs.Readings.{Readings, running_of, life_of, untold_of, is_resident}
use Rattle.sa_laws.specs.Record.{after_record, blocking, blocking_for, locks_one, page_touched, page_in, length_behind, length_in, is_thread}
use Rattle.sa_laws.specs.State.{is_active, Thread, at_start, space_at, thread_at, thread_in, instr_of as law_instr, program_len, space_def}
use Rattle.sa_laws.specs.Step.{CanBlock, HasCause, IsFaulting, IsMissed, IsRunner, IsTouched}
use Rattle.sa_laws.specs.Turns.{IsInsOf}
use Rattle.sa_laws.specs.declared.place.Place.TheVariants as place
use Rattle.sa_spaces.specs.Space.{SpaceView}
use Rattle.sa_user_laws.proofs.Runners.{runner-behind, own-elsewhere}
use Rattle.sa_user_laws.specs.Scene.{event_begun_at}
use Rattle.sa_user_laws.specs.Steps.{event_with}
use Rattle.sa_fast_laws.proofs.instructions.Effects.{AnswerIs}
use Rattle.sa_fast_laws.proofs.notices.OwnThread.{IsPlaced, own-placed, own-fits}
use Rattle.sa_fast_laws.proofs.notices.Untold.{IsNoted, runs-only, noted-stage}
use Rattle.sa_fast_laws.specs.FastFits.{FitsShared, SitsIn}
use Rattle.sa_fast_laws.specs.Stage.{InBlock, Runs, stage_by, stage_of, is_act, is_gone, place_of, kept_of}
use Rattle.sa_driven_laws.specs.Life.{is_own, HasLife}
use Rattle.sa_driven_laws.specs.DrivenFits.{Holds, DrivenFits}
use Rattle.sa_driven_laws.proofs.BlockSteps.{page-legal, blocked-fits, first-is, resident-is}
use Rattle.sa_driven_laws.proofs.Ceases.{none-of}
use Rattle.sa_driven_laws.proofs.Changed.{life-here, IsChanged}
use Rattle.sa_driven_laws.proofs.InsFits.{fits_now, sits, made, inside, runs_there, space, changes, place_here, place_there, kept_here, kept_there, loads, actives, lives_now, hand-now, roused}
use Rattle.sa_driven_laws.proofs.InsFits as ins
use Rattle.sa_driven_laws.proofs.InsSteps.{There, instr-before, instr-after, thread_fits, t_made}
use Rattle.sa_driven_laws.proofs.Moves.{IsLegal, rules-of}
use Rattle.sa_driven_laws.proofs.Moves as moves
use Rattle.sa_driven_laws.proofs.Replies.{stage, unlowered}
use Rattle.sa_driven_laws.proofs.Runners.{alone-runs}
use Rattle.sa_driven_laws.proofs.Scenes.{IsScene}
use Rattle.sa_driven_laws.proofs.Scenes as scene
use Rattle.sa_driven_laws.proofs.Untold.{ceased-none, ceased-acts, ceased-ran, untold}

-- WHICH INSTRUCTIONS BLOCK: one for an I/O, and the touch of an absent page
pub record Blocks (fetch pages : ℕ) (j : Instr) (n : ℕ) (page : Option ℕ) : Type 0 where
  pub by : ((j ≡ Io n) × (page ≡ None)) ⊎ ((k : ℕ) × (j ≡ Touch k) × (is_page_resident pages k ≡ false) × (n ≡ fetch) × (page ≡ Some k))

told-calm : (x : Shared) (t : ThreadNo) (b : Block) (z : SyncAnswer) (n : ℕ) (page : Option ℕ) → (told_by x None t b z).answer ≡ rans.Blocks n page → ⊥
told-calm x t b answer.Goes n page is = cc
told-calm x t b answer.Waits n page is = cc
told-calm x t b (answer.Wakes v) n page is = cc

abbrev length_of : Ran → ℕ
length_of (rans.Blocks n page) = n
length_of _ = 0

abbrev page_in_ran : Ran → Option ℕ
page_in_ran (rans.Blocks n page) = page
page_in_ran _ = None

pub which-blocks : (fetch pages : ℕ) (x : Shared) (t : ThreadNo) (b : Block) (j : Instr) (n : ℕ) (page : Option ℕ)
    → (outcome_of fetch pages x None t b j).answer ≡ rans.Blocks n page → Blocks fetch pages j n page
which-blocks fetch pages x t b Compute n page is = absurd cc
which-blocks fetch pages x t b (Set reg m) n page is = absurd cc
which-blocks fetch pages x t b (Add reg other) n page is = absurd cc
which-blocks fetch pages x t b (Sub reg other) n page is = absurd cc
which-blocks fetch pages x t b (Jnz reg target) n page is = absurd cc
which-blocks fetch pages x t b (Load reg cell) n page is = absurd cc
which-blocks fetch pages x t b (Store reg cell) n page is = absurd cc
which-blocks fetch pages x t b (Out reg) n page is = absurd cc
which-blocks fetch pages x t b (Fork reg program) n page is = absurd (by (next_made x.state.lists) is) where
  by : (m : Option ℕ) → (forked x None t b reg program m).answer ≡ rans.Blocks n page → ⊥
  by None is = cc
  by (Some m) is = cc
which-blocks fetch pages x t b (Join reg) n page is = absurd (told-calm _ t _ _ n page is)
which-blocks fetch pages x t b (Lock m) n page is = absurd (told-calm _ t _ _ n page is)
which-blocks fetch pages x t b (Unlock m) n page is = absurd (told-calm _ t _ _ n page is)
which-blocks fetch pages x t b (Wait k) n page is = absurd (told-calm _ t _ _ n page is)
which-blocks fetch pages x t b (Signal k) n page is = absurd (told-calm _ t _ _ n page is)
which-blocks fetch pages x t b (Io m) n page is = record { by = inl (ap Io (ap length_of is), sym (ap page_in_ran is)) }
which-blocks fetch pages x t b (Touch k) n page is = by (is_page_resident pages k) refl is where
  by : (there : Bool) → is_page_resident pages k ≡ there → (touched x None t b fetch k there).answer ≡ rans.Blocks n page
      → Blocks fetch pages (Touch k) n page
  by true at is = absurd cc
  by false at is = record { by = inr (k, refl, at, sym (ap length_of is), sym (ap page_in_ran is)) }
which-blocks fetch pages x t b End n page is = absurd cc

page-none : (b : Bool) → page_of b None ≡ None
page-none true = refl
page-none false = refl

module _ (set : Setting) (e : ℕ) (u : DrivenSpace) (cs : Contexts DrivenContext) (w : WorkloadView) (r : Readings) (p : ProcNo) (a : ActNo) (life : Life)
    (c : DrivenContext) (seen : Seen) (i : IsScene set e u cs w r p a life c seen) (t : ThreadNo) (own : c.thread ≡ Some t) where
  abbrev r0 : Readings
  r0 = event_begun_at w seen.event p r

  abbrev b : Block
  b = block_at u.base.shared.threads t.0

  abbrev j : Instr
  j = instr_of u.base.def (block_at u.base.shared.threads t.0)

  abbrev o : Outcome
  o = ins.o set e u cs w r p a life c seen i t own

  abbrev v : DrivenSpace
  v = after_run u o

  abbrev d : DrivenContext
  d = record c { hand = with_all c.hand (work_of o.shared.works o.work) }

  k0 : Holds set.space (event_begun_at w seen.event p r) u.base.shared cs
  k0 = moves.k0 set e u cs w r p a life c seen i

  abbrev Legal : Stepped DrivenSpace DrivenContext → Type 0
  Legal st = IsLegal w set r p seen.event a cs st

  -- THE TOUCH of an absent page
  abbrev by-instr : (local : Bool) (z : Outcome) → ℕ → Option ℕ → List Record → Stepped DrivenSpace DrivenContext
  by-instr local z n page says =
      ran_by (after_run u z) seen (record c { hand = with_all c.hand (work_of z.shared.works z.work) }) local (rans.Blocks n page) says

  touch-page : (k : ℕ) → j ≡ Touch k → is_page_resident seen.pages k ≡ false → (first : Bool) → faults seen c ≡ first
      → (if locks_one (life_of r a) && not (is_resident r0 set.space PACKAGE_PAGE) then PACKAGE_PAGE else page_touched w r0 set.space c.thread)
      ≡ (if first then PACKAGE_PAGE else k)
  touch-page k is absent first test =
      ap (λ y. if y then PACKAGE_PAGE else page_touched w r0 set.space c.thread) (first-is set e u cs w r p a life c seen i ∙ test)
      ∙ ap (λ y. if first then PACKAGE_PAGE else y) (ap (page_touched w r0 set.space) own
      ∙ ap page_in (ins.instr_is set e u cs w r p a life c seen i t own ∙ is))

  touch-cause : (k : ℕ) → j ≡ Touch k → is_page_resident seen.pages k ≡ false → HasCause w r0 set.space c.thread a
  touch-cause k is absent = inr (inl (subst (IsFaulting w r0 set.space) (sym own)
      (subst (IsMissed r0 set.space) (sym (ins.instr_is set e u cs w r p a life c seen i t own ∙ is))
      (resident-is set e u cs w r p a life c seen i k ∙ absent))))

  pub touch-legal : (k : ℕ) → j ≡ Touch k → is_page_resident seen.pages k ≡ false → (local : Bool)
      → Legal (by-instr local (blocks u.base.shared None t b u.base.fetch (Some k)) u.base.fetch (Some k) [])
  touch-legal k is absent local = by (faults seen c) refl where
    value : (after_run u (blocks u.base.shared None t b u.base.fetch (Some k))).base.shared ≡ placed u.base.shared c.thread fast.Blocked
    value = ap (λ ws. record (placed u.base.shared (Some t) fast.Blocked) { works = ws }) (sym i.stands.unused.works)
        ∙ ap (λ y. placed u.base.shared y fast.Blocked) (sym own)

    none-of-it : c.thread ≡ None → has_lock life ≡ true
    none-of-it none = absurd (let both = sym none ∙ own in cc)

    by : (first : Bool) → faults seen c ≡ first
        → Legal (asks_for (after_run u (blocks u.base.shared None t b u.base.fetch (Some k))) c [] (asked.Block u.base.fetch (page_of (faults seen c) (Some k))))
    by true test = subst
        (λ y. Legal (asks_for (after_run u (blocks u.base.shared None t b u.base.fetch (Some k))) c [] (asked.Block u.base.fetch (page_of y (Some k))))) (sym test)
        (page-legal set e u cs w r p a life c seen i _ PACKAGE_PAGE value (touch-page k is absent true test) (touch-cause k is absent) none-of-it)
    by false test = subst
        (λ y. Legal (asks_for (after_run u (blocks u.base.shared None t b u.base.fetch (Some k))) c [] (asked.Block u.base.fetch (page_of y (Some k))))) (sym test)
        (page-legal set e u cs w r p a life c seen i _ k value (touch-page k is absent false test) (touch-cause k is absent) none-of-it)

  -- AN I/O
  module _ (n : ℕ) (is : j ≡ Io n) where
    can : There set e u cs w r p a life c seen i t own j
    can = subst (There set e u cs w r p a life c seen i t own) (sym is) tt

    abbrev x : Record
    x = records.Ins set.space t (block_at u.base.shared.threads t.0).pc

    abbrev q : Readings
    q = after_record w seen.event p (event_begun_at w seen.event p r) (records.Ins set.space t (block_at u.base.shared.threads t.0).pc)

    answer-is : o.answer ≡ rans.Blocks n None
    answer-is = ap (λ k. (outcome_of u.base.fetch seen.pages u.base.shared None t b k).answer) is

    so : ((changes set e u cs w r p a life c seen i t own can).block.place ≡ fast.Blocked)
        × ((changes set e u cs w r p a life c seen i t own can).changed.place ≡ (thread_at r.state set.space t).place)
    so = subst (λ y. AnswerIs u.base.shared (space_at r.state set.space).threads None t b (thread_at r.state set.space t).place
        (fits_now set e u cs w r p a life c seen i t own) (sits set e u cs w r p a life c seen i t own) (made set e u cs w r p a life c seen i t own)
        (inside set e u cs w r p a life c seen i t own) y (changes set e u cs w r p a life c seen i t own can).block.place
        (changes set e u cs w r p a life c seen i t own can).changed.place) answer-is (changes set e u cs w r p a life c seen i t own can).answers

    runs-still : (thread_in (space_at q.state set.space) t).place ≡ place.Running p
    runs-still = place_here set e u cs w r p a life c seen i t own can ∙ so.1 ∙ runs_there set e u cs w r p a life c seen i t own

    kept-now : place_at o.shared t.0 ≡ fast.Blocked
    kept-now = kept_here set e u cs w r p a life c seen i t own can ∙ so.0

    same-made : o.shared.state.lists.made ≡ u.base.shared.state.lists.made
    same-made = ap (λ k. (outcome_of u.base.fetch seen.pages u.base.shared None t b k).shared.state.lists.made) is

    fits : FitsShared o.shared (space_at q.state set.space)
    fits = space set e u cs w r p a life c seen i t own can

    known : set.space.0 < length q.state.spaces
    known = let old = scene.known set e u cs w r p a life c seen i in
        let size : length q.state.spaces ≡ length r.state.spaces = length-set r.state.spaces set.space.0 _ in omega (arith, old, size)

    in-space : t.0 < length (space_at q.state set.space).threads
    in-space = let all = fits.made in let less = t_made set e u cs w r p a life c seen i t own in let same = same-made in omega (arith, all, less, same)

    module _ (io : IoNo) where
      abbrev here : Readings
      here = after_record w seen.event p q (records.Block set.space (Some t) a io)

      abbrev now : Life
      now = held_with (Some t) (with_hand (roused set e u cs w r p a life c seen i t own can) life)

      stage-before : stage_of r0 set.space a life ≡ Runs
      stage-before = stage set e u cs w r p a life c seen i

      noted : IsNoted set.space r0 here a now (Blocked a)
      noted = record {
        lives =
            ap (λ (f : ℕ → Option Life). put f a.0 (option_map (held_with (Some t)) (f a.0))) (lives_now set e u cs w r p a life c seen i t own can)
            ∙ ap (λ y. put (put r.lives a.0 (Some (with_hand (roused set e u cs w r p a life c seen i t own can) life))) a.0 (option_map (held_with (Some t)) y))
            (put-same r.lives a.0 (Some (with_hand (roused set e u cs w r p a life c seen i t own can) life)))
            ∙ put-put r.lives a.0 (Some (with_hand (roused set e u cs w r p a life c seen i t own can) life)) (Some now);
        untold = get_or-set_same r.untold set.space.0 (untold_of r set.space ++ Blocked a ∷ []) [] (scene.heard set e u cs w r p a life c seen i);
        none = runs-only _ _ _ stage-before;
        apart = λ y ne. (refl, refl);
      }

      procs : p.0 < length r.running
      procs = scene.procs set e u cs w r p a life c seen i

      block-stage : stage_of here set.space a now ≡ InBlock
      block-stage = noted-stage set.space r0 here a now (Blocked a) noted life.proc
          ∙ ap (λ y. stage_by false false (is_act a (running_of here y))) i.on.proc
          ∙ ap (λ y. stage_by false false (is_act a y))
          (ceased-none set.space r0 here u.base.shared cs k0 p a life i.on.runs i.on.is i.on.space refl procs)

      place-now : IsPlaced q.state set.space (place.Running p) place.Blocked (Some t)
      place-now = own-placed q.state set.space (place.Running p) place.Blocked (Some t) known
          (λ m at. subst (λ (y : ThreadNo). y.0 < length (space_at q.state set.space).threads) (same_Some t m at) in-space)
          (λ m at. ap (λ y. (thread_in (space_at q.state set.space) y).place) (sym (same_Some t m at)) ∙ runs-still)

      l : HasLife set.space u.base.shared (space_at r.state set.space) (stage_of r0 set.space a life) c life
      l = life-here set.space r0 u.base.shared cs k0 a c life i.on.mine i.on.is

      io-changed : IsChanged set.space r0 here u.base.shared v.base.shared cs (put cs a.0 (Some d)) a now d
      io-changed = untold set e u cs (put cs a.0 (Some d)) i.stands set.space r0 k0 a d c i.on.mine refl here v.base.shared now (Blocked a) (record {
        noted = noted;
        here = put-same cs a.0 (Some d);
        rest = λ y ne. put-other cs a.0 y (Some d) ne;
        acts = ceased-acts set.space r0 here u.base.shared cs k0 p a life i.on.runs i.on.is i.on.space refl procs;
        ran = ceased-ran set.space r0 here u.base.shared cs k0 p a life i.on.runs i.on.is i.on.space refl procs;
        places = λ m less other.
            let ne : m.0 ≢ t.0 = other t own in (
              ap (λ (y : Thread). y.place) (place-now.others m (none-of (Some t) m (λ k at. subst (λ (y : ThreadNo). m.0 ≢ y.0) (same_Some t k at) ne)))
                  ∙ place_there set e u cs w r p a life c seen i t own can m ne less,
              kept_there set e u cs w r p a life c seen i t own can m ne less,
            );
        space =
            let y = own-fits o.shared q.state set.space place.Blocked (Some t) known
            (λ m at. subst (λ (k : ThreadNo). k.0 < o.shared.state.lists.made) (same_Some t m at)
            (let less = t_made set e u cs w r p a life c seen i t own in let same = same-made in omega (arith, less, same)))
            (λ m at. subst (λ (k : ThreadNo). SitsIn (place_at o.shared k.0) place.Blocked) (same_Some t m at)
            (subst (λ k. SitsIn k place.Blocked) (sym kept-now) tt)) fits in
            record { made = y.made; threads = y.threads; sync = y.sync };
        active =
            let moves = place-now.active in
            let one = actives set e u cs w r p a life c seen i t own can in
            let two = loads set e u cs w r p a life c seen i t own can in
            let ran : one_where (is_active (changes set e u cs w r p a life c seen i t own can).changed.place) ≡ 1 =
            ap (λ k. one_where (is_active k)) (so.1 ∙ runs_there set e u cs w r p a life c seen i t own) in
            let unloaded : one_where (is_loaded (changes set e u cs w r p a life c seen i t own can).block.place) ≡ 0 = ap (λ k. one_where (is_loaded k)) so.0 in
            omega (arith, moves, one, two, ran, unloaded);
        mine = record {
          space = l.space;
          locks = l.locks;
          cont = l.cont;
          hand = λ m. hand-now set e u cs w r p a life c seen i t own can m
              ∙ sym (ap (λ g. has d.hand m || (is_gone g && is_own d.thread m)) block-stage ∙ or-none (has d.hand m));
          place = λ m at. place-now.now m (sym own ∙ at) ∙ sym (ap (λ g. place_of g life.proc) block-stage);
          kept = λ m at. ap (λ (k : ThreadNo). place_at o.shared k.0) (sym (same_Some t m (sym own ∙ at))) ∙ kept-now ∙ sym (ap kept_of block-stage);
          named = λ no. sym own;
        };
      }) where
        or-none : (y : Bool) → (y || false) ≡ y
        or-none true = refl
        or-none false = refl

    -- who runs at its block
    runner-now : IsRunner q.state p set.space (Some t)
    runner-now = runner-behind set.space r q p (Some t) i.moment i.on.owner
        (λ z ne. own-elsewhere w p r.state set.space z x refl ne)
        (λ m. (
          λ at. elim (cases_eq m.0 t.0) [
            | inl e ↦ ap (λ k. Some (record { 0 = k })) (sym e)
            | inr ne ↦ elim (cases_lt m.0 u.base.shared.state.lists.made) [
              | inl less ↦
                  sym own ∙ (alone-runs set e u cs i.stands set.space r0 k0 p a c life i.on.mine i.on.is i.on.space i.on.runs m).0
                  (sym (place_there set e u cs w r p a life c seen i t own can m ne less) ∙ at)
              | inr past ↦ absurd (
                  let done : thread_at q.state set.space m ≡ at_start 0 place.Done =
                  get_or_past (space_at q.state set.space).threads m.0 (at_start 0 place.Done)
                  (let all = fits.made in let same = same-made in omega (arith, all, same, past)) in
                  no-run (sym (ap (λ (y : Thread). y.place) done) ∙ at))
            ]
          ],
          λ at. ap (λ y. (thread_in (space_at q.state set.space) y).place) (sym (same_Some t m at)) ∙ runs-still,
        )) where
          no-run : place.Done ≡ place.Running p → ⊥
          no-run same = cc

    behind-is : length_behind w q set.space (Some t) q.last ≡ Some n
    behind-is =
        ap (λ y. if y && is_thread t (Some t) then length_in (law_instr w q.state set.space t b.pc) else None) (eq-eqb set.space.0 set.space.0 refl)
        ∙ ap (λ y. if y then length_in (law_instr w q.state set.space t b.pc) else None) (eq-eqb t.0 t.0 refl)
        ∙ ap length_in (instr-after set e u cs w r p a life c seen i t own can q refl ∙ is)

    pub io-legal : (local : Bool) → Legal (by-instr local o n None (x ∷ []))
    io-legal local = subst (λ y. Legal (asks_for v d (x ∷ []) (asked.Block n y))) (sym (page-none (faults seen d)))
        (record {
          steps = (
            record {
              owned = i.on.owner;
              runs = runs_there set e u cs w r p a life c seen i t own;
              pc = (thread_fits set e u cs w r p a life c seen i t own).pc;
              within = let at = (i.stands.parts.at t.0 (t_made set e u cs w r p a life c seen i t own)).pc in
                  let long : program_len w r.state set.space t ≡ _ =
                  ap (λ m. length (slice_index_or (space_def w set.space).programs m [])) (thread_fits set e u cs w r p a life c seen i t own).program
                  ∙ ap (λ (z : SpaceView). length (slice_index_or z.programs b.program [])) (scene.def set e u cs w r p a life c seen i) in
                  omega (arith, at, long);
              page = subst (IsTouched r0 set.space) (sym (instr-before set e u cs w r p a life c seen i t own ∙ is)) tt;
            },
            tt,
          );
          answer = record {
            begins = λ io. refl;
            for = ap (λ y. blocking w q set.space y a) own ∙ ap (blocking_for w q set.space (Some t) a) behind-is;
            needs = λ io. subst (λ y. CanBlock w p q set.space y a) (sym own)
                (record { owned = i.on.owner; runs = runner-now; cause = inl (ap is_some behind-is) });
            rules_hold = λ io passage closing passes closed.
                rules-of w r (event_with seen.event p (x ∷ records.Block set.space c.thread a io ∷ passage) closing) a life x
                (records.Block set.space c.thread a io ∷ passage)
                ((records.Block set.space c.thread a io ∷ passage) ++ closing) i.on.runs i.on.is refl
                (subst (λ k. IsInsOf k (records.Block set.space c.thread a io ∷ passage)) (sym (instr-before set e u cs w r p a life c seen i t own ∙ is)) passes) tt;
            after = λ io behind last spaces. subst
                (λ y. DrivenFits set.space (record (after_record w seen.event p q (records.Block set.space y a io)) {
                  lives = with_step is_inside_any w r (event_with seen.event p (x ∷ records.Block set.space y a io ∷ []) behind) last
                      (x ∷ (records.Block set.space y a io ∷ behind)) (after_record w seen.event p q (records.Block set.space y a io)).lives;
                }) v.base.shared (put cs a.0 (Some d))) (sym own)
                (blocked-fits set e u cs w r p a life c seen i (here io) v.base.shared (now io) d x (records.Block set.space (Some t) a io ∷ []) behind last
                (io-changed io) (block-stage io) refl (unlowered set e u cs w r p a life c seen i)
                (λ none. absurd (let both = sym none ∙ own in cc)));
          };
        })
