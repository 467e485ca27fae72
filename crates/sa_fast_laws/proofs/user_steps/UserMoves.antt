-- The moves of a thread's instruction after which its thread goes on, or waits or is done: each a whole event.
use Rattle.std.proofs.Common.{◌≡◌, ℕ, Bool, true, false, ◌||◌, List, [], ◌∷◌, Option, Some, None, is_some, slice_index_or, refl, sym, ap, ◌∙◌, subst, inl, inr, arith}
use Rattle.std.specs.Prelude.{length, ◌<◌, not, if◌then◌else◌, ◌⊎◌}
use Rattle.std.proofs.lemmas.List.{get_or-set_same}
use Rattle.std.proofs.lemmas.Option.{same_Some}
use Rattle.std.specs.List.{list_any}
use Rattle.std.proofs.lemmas.Bool.{and_right}
use Rattle.sa_base.specs.declared.context.Seen.{Seen}
use Rattle.sa_base.specs.declared.number.ActNo.{ActNo}
use Rattle.sa_base.specs.declared.number.ProcNo.{ProcNo}
use Rattle.sa_base.specs.declared.number.SpaceNo.{SpaceNo}
use Rattle.sa_base.specs.declared.number.ThreadNo.{ThreadNo}
use Rattle.sa_base.specs.declared.record.Record.{Record}
use Rattle.sa_base.specs.declared.record.Record.TheVariants as records
use Rattle.sa_lemmas.specs.Function.{put}
use Rattle.sa_instr.specs.Local.{instr_at}
use Rattle.sa_instr.specs.Regs.{reg_value}
use Rattle.sa_instr.specs.declared.instr.Instr.{Instr}
use Rattle.sa_instr.specs.declared.instr.Instr.TheVariants.{Compute, Set, Add, Sub, Jnz, Load, Store, Out, Fork, Join, Lock, Unlock, Wait, Signal, Io, Touch, End}
use Rattle.sa_spaces.specs.Space.{SpaceView}
use Rattle.sa_spaces.specs.Workload.{WorkloadView}
use Rattle.sa_code.specs.Micro.{is_resident as is_page_resident}
use Rattle.sa_fast.specs.Instruction.{Outcome, run, run_says, says_of, outcome_of, instr_of, touched, next_of}
use Rattle.sa_fast.specs.Threads.{unmade, block_at}
use Rattle.sa_fast.specs.declared.instruction.Ran.{Ran}
use Rattle.sa_fast.specs.declared.instruction.Ran.TheVariants as rans
use Rattle.sa_fast.specs.declared.shared.Shared.{Shared}
use Rattle.sa_fast.specs.declared.threads.Block.{Block}
use Rattle.sa_abstract.specs.Calls.{Contexts}
use Rattle.sa_abstract.specs.Setting.{Setting}
use Rattle.sa_package_model.proofs.Views.{settled_between}
use Rattle.sa_package_model.specs.Context.{carried_by, section_in, has_some, is_left, settled_to, has_bulk, stands_inside}
use Rattle.sa_package_model.specs.Rules.{settled, pair, did, with_shared, owed, used_by, stays_user}
use Rattle.sa_package_model.specs.Step.{stepped}
use Rattle.sa_package_model.specs.declared.context.Context.{Context}
use Rattle.sa_package_model.specs.declared.context.ContextState.{ContextState}
use Rattle.sa_package_model.specs.declared.context.ContextState.TheVariants.{Work, User}
use Rattle.sa_package_model.specs.declared.package.Package.{Package}
use Rattle.sa_laws.specs.Event.{Event}
use Rattle.sa_laws.specs.History.{is_inside, stepped as ends, after_records, is_running_or_blocked, is_up}
use Rattle.sa_laws.specs.Life.{Life}
use Rattle.sa_laws.specs.Locks.{StandsAlone}
use Rattle.sa_laws.specs.Readings.{Readings}
use Rattle.sa_laws.specs.Record.{after_record}
use Rattle.sa_laws.specs.State.{thread_at, space_def, program_len, instr_of as law_instr}
use Rattle.sa_laws.specs.Step.{AreSteps, IsTouched, IsValueOf}
use Rattle.sa_laws.specs.Turns.{IsInsOf, is_of_locks}
use Rattle.sa_laws.specs.declared.place.Place.TheVariants as place
use Rattle.sa_user_laws.specs.Scene.{event_begun_at}
use Rattle.sa_fast_laws.proofs.relation.EventEnds.{begun-holds}
use Rattle.sa_fast_laws.proofs.relation.InsideMarks.{settled-copy, unsettled-inside}
use Rattle.sa_fast_laws.proofs.relation.OneLife.{IsHeld}
use Rattle.sa_fast_laws.proofs.relation.SettledMarks.{settled-marked}
use Rattle.sa_fast_laws.proofs.relation.ThreadsBeside.{life-here}
use Rattle.sa_fast_laws.specs.FastFits.{Holds, FitsThread}
use Rattle.sa_fast_laws.specs.Life.{IsMarked}
use Rattle.sa_fast_laws.specs.Stage.{is_gone, place_of}
use Rattle.sa_fast_laws.specs.View.{view, in_copy, at_yield, looks_of, left_at}
use Rattle.sa_fast_laws.proofs.instructions.Effects.{IsThere}
use Rattle.sa_fast_laws.proofs.instructions.Instructions.{IsIns, ins-is, fits_now, sits, made, inside}
use Rattle.sa_fast_laws.proofs.steps.Scenes.{IsScene}
use Rattle.sa_fast_laws.proofs.steps.Scenes as scene
use Rattle.sa_fast_laws.proofs.steps.Moves.{IsBehind, IsMove}

-- what an `out` gives
abbrev pub out_of : Block → Instr → Option ℕ
out_of b (Out reg) = Some (reg_value b.regs reg)
out_of b _ = None

abbrev pub outs : SpaceNo → ThreadNo → Option ℕ → List Record
outs s t None = []
outs s t (Some v) = records.Out s t v ∷ []

-- an instruction that does not block
abbrev pub IsCalm : Ran → Type 0
IsCalm (rans.Blocks n page) = ⊥
IsCalm _ = Unit {0}

pub record IsPlain (s : SpaceNo) (t : ThreadNo) (b : Block) (pages : ℕ) (j : Instr) : Type 0 where
  pub there : (page : ℕ) → j ≡ Touch page → is_page_resident pages page ≡ true
  pub says : says_of s t b pages j ≡ records.Ins s t b.pc ∷ outs s t (out_of b j)
  pub table : IsInsOf j (outs s t (out_of b j))

abbrev touch_page : Instr → Option ℕ
touch_page (Touch page) = Some page
touch_page _ = None

module _ (fetch pages : ℕ) (x : Shared) (w : Option ThreadNo) (s : SpaceNo) (t : ThreadNo) (b : Block) where
  none_touched : (j : Instr) → touch_page j ≡ None → (page : ℕ) → j ≡ Touch page → is_page_resident pages page ≡ true
  none_touched j none page is = absurd (let no_such = sym none ∙ ap touch_page is in cc)

  touched_plain : (page : ℕ) (there : Bool) → is_page_resident pages page ≡ there → IsCalm (touched x w t b fetch page there).answer
      → IsPlain s t b pages (Touch page)
  touched_plain page false is calm = absurd calm
  touched_plain page true is calm = record {
    there = λ k same. ap (is_page_resident pages) (sym (same_Some page k (ap touch_page same))) ∙ is;
    says = ap (λ z. if z then records.Ins s t b.pc ∷ [] else []) is;
    table = refl;
  }

  pub plain : (j : Instr) → IsCalm (outcome_of fetch pages x w t b j).answer → IsPlain s t b pages j
  plain Compute calm = record { there = none_touched Compute refl; says = refl; table = refl }
  plain (Out reg) calm = record { there = none_touched (Out reg) refl; says = refl; table = tt }
  plain (Io n) calm = absurd calm
  plain (Touch page) calm = touched_plain page (is_page_resident pages page) refl calm
  plain End calm = record { there = none_touched End refl; says = refl; table = refl }
  plain j calm = record { there = none_touched j refl; says = refl; table = refl }

-- an `out` after it changes nothing of the life
pub outs-held : (s : SpaceNo) (r q : Readings) (u v : Package) (a : ActNo) (c new : Context) (w : WorkloadView) (n : ℕ) (p : ProcNo) (t : ThreadNo)
    (o : Option ℕ)
    → IsHeld s r q u v a c new → IsHeld s r (after_records w n p q (outs s t o)) u v a c new
outs-held s r q u v a c new w n p t None i = i
outs-held s r q u v a c new w n p t (Some m) i = record {
  space = i.space;
  load = i.load;
  was = i.was;
  life = i.life;
  lives = i.lives;
  old = i.old;
  stays = i.stays;
  untold = i.untold;
  running = i.running;
  mine = i.mine;
  places = i.places;
  kept = i.kept;
  works = i.works;
}

outs_same : (w : WorkloadView) (n : ℕ) (p : ProcNo) (q : Readings) (s : SpaceNo) (t : ThreadNo) (o : Option ℕ)
    → ((after_records w n p q (outs s t o)).state ≡ q.state) × ((after_records w n p q (outs s t o)).demands ≡ q.demands) × ((after_records w n p q
    (outs s t o)).taken ≡ q.taken)
outs_same w n p q s t None = (refl, refl, refl)
outs_same w n p q s t (Some v) = (refl, refl, refl)

pub outs_ready : (w : WorkloadView) (n : ℕ) (p : ProcNo) (q : Readings) (s : SpaceNo) (t : ThreadNo) (o : Option ℕ)
    → (after_records w n p q (outs s t o)).ready ≡ q.ready
outs_ready w n p q s t None = refl
outs_ready w n p q s t (Some v) = refl

pub outs_plain : (s : SpaceNo) (t : ThreadNo) (o : Option ℕ)
    → (list_any is_up (outs s t o) ≡ false) × (StandsAlone (list_any is_of_locks (outs s t o)) (outs s t o))
outs_plain s t None = (refl, tt)
outs_plain s t (Some v) = (refl, tt)

-- a thread that goes on is at its next instruction, or its context has threads to make ready
abbrev pub goes_state : ThreadNo → Option ThreadNo → ContextState
goes_state t None = User t
goes_state t (Some first) = Work (Some t)

pub record IsGoing (v : Package) (seen : Seen) (t : ThreadNo) (wk : Option ThreadNo) : Type 0 where
  pub stays : stays_user v seen (record { state = User t; sections = []; work = wk }) t wk ≡ record { state = goes_state t wk; sections = []; work = wk }
  pub out : section_in (goes_state t wk) ≡ None
  pub no_copy : in_copy (goes_state t wk) ≡ false
  pub carries : carried_by (goes_state t wk) ≡ Some t
  pub inside : is_left (record { state = goes_state t wk; sections = []; work = wk }) ≡ stands_inside (goes_state t wk)
  pub yields : at_yield (goes_state t wk) ≡ false
  pub looks : looks_of (goes_state t wk) ≡ 0
  pub left : is_left (record { state = goes_state t wk; sections = []; work = wk }) ≡ left_at (goes_state t wk)
      (is_left (record { state = goes_state t wk; sections = []; work = wk }))

pub going : (v : Package) (seen : Seen) (t : ThreadNo) (wk : Option ThreadNo) → IsGoing v seen t wk
going v seen t None = record { stays = refl; out = refl; no_copy = refl; carries = refl; inside = refl; yields = refl; looks = refl; left = refl }
going v seen t (Some first) =
    record { stays = refl; out = refl; no_copy = refl; carries = refl; inside = refl; yields = refl; looks = refl; left = refl }

module _ (set : Setting) (e : ℕ) (u : Package) (cs : Contexts Context) (w : WorkloadView) (r : Readings) (p : ProcNo) (a : ActNo) (life : Life)
    (seen : Seen)
    (t : ThreadNo) (i : IsScene set e u cs w r p a life (record { state = User t; sections = []; work = None }) seen) where
  abbrev c : Context
  c = record { state = User t; sections = []; work = None }

  abbrev s : SpaceNo
  s = set.space

  abbrev r0 : Readings
  r0 = event_begun_at w seen.event p r

  abbrev n : ℕ
  n = seen.event

  abbrev b : Block
  b = block_at u.shared.threads t.0

  abbrev j : Instr
  j = instr_of u.def b

  abbrev pub o : Outcome
  o = run u.def u.fetch seen.pages u.shared None t

  abbrev pub with_ins : Package
  with_ins = with_shared u o.shared

  abbrev Move : Package → Context → Type 0
  Move =
      IsMove set u cs w r p a life (record { state = User t; sections = []; work = None }) seen (records.Ins set.space t (block_at u.shared.threads t.0).pc)
      (outs set.space t (out_of (block_at u.shared.threads t.0) (instr_of u.def (block_at u.shared.threads t.0))))

  pub k0 : Holds set.space (event_begun_at w seen.event p r) u cs
  k0 = begun-holds set.space r u cs w (record { number = seen.event; proc = p; records = [] }) i.holds

  pub known : set.space.0 < length r.state.spaces
  known = scene.known set e u cs w r p a life c seen i

  pub def : space_def w set.space ≡ u.def
  def = scene.def set e u cs w r p a life c seen i

  space : u.shared.state.space ≡ set.space
  space = scene.space set e u cs w r p a life c seen i

  pub t_made : t.0 < u.shared.state.lists.made
  t_made = made set e u cs i.stands s r0 k0 a t i.on.mine w n p life i.on.runs i.on.is i.on.space known def seen.pages

  pub t_below : t.0 < length u.shared.threads
  t_below = inside set e u cs i.stands s r0 k0 a t i.on.mine w n p life i.on.runs i.on.is i.on.space known def seen.pages

  -- the thread as the package has it
  pub thread_fits : FitsThread (block_at u.shared.threads t.0) (thread_at r.state set.space t)
  thread_fits = i.holds.space.threads t t_made

  pub instr_is : law_instr w r.state set.space t (block_at u.shared.threads t.0).pc ≡ instr_of u.def (block_at u.shared.threads t.0)
  instr_is =
      ap (λ m. instr_at (slice_index_or (space_def w set.space).programs m []) b.pc) thread_fits.program
      ∙ ap (λ (d : SpaceView). instr_at (slice_index_or d.programs b.program []) b.pc) def

  pub runs_there : (thread_at r.state set.space t).place ≡ place.Running p
  runs_there =
      let run = i.holds.runs p a life i.on.runs i.on.is i.on.space in
      (life-here set.space r u cs i.holds a c life i.on.mine i.on.is).place t refl ∙ ap (λ g. place_of g life.proc) run.2 ∙ ap place.Running run.1

  module _ (calm : IsCalm (run u.def u.fetch seen.pages u.shared None t).answer) where
    is_plain : IsPlain set.space t b seen.pages j
    is_plain = plain u.fetch seen.pages u.shared None set.space t b j calm

    can : IsThere u.shared _ None t b _
        (fits_now set e u cs i.stands s r0 k0 a t i.on.mine w n p life i.on.runs i.on.is i.on.space known def seen.pages)
        (sits set e u cs i.stands s r0 k0 a t i.on.mine w n p life i.on.runs i.on.is i.on.space known def seen.pages)
        (made set e u cs i.stands s r0 k0 a t i.on.mine w n p life i.on.runs i.on.is i.on.space known def seen.pages)
        (inside set e u cs i.stands s r0 k0 a t i.on.mine w n p life i.on.runs i.on.is i.on.space known def seen.pages) seen.pages j
    can = by j refl where
      by : (k : Instr) → j ≡ k
          → IsThere u.shared _ None t b _
          (fits_now set e u cs i.stands s r0 k0 a t i.on.mine w n p life i.on.runs i.on.is i.on.space known def seen.pages)
          (sits set e u cs i.stands s r0 k0 a t i.on.mine w n p life i.on.runs i.on.is i.on.space known def seen.pages)
          (made set e u cs i.stands s r0 k0 a t i.on.mine w n p life i.on.runs i.on.is i.on.space known def seen.pages)
          (inside set e u cs i.stands s r0 k0 a t i.on.mine w n p life i.on.runs i.on.is i.on.space known def seen.pages) seen.pages k
      by Compute is = tt
      by (Set reg m) is = tt
      by (Add reg other) is = tt
      by (Sub reg other) is = tt
      by (Jnz reg target) is = tt
      by (Load reg cell) is = tt
      by (Store reg cell) is = tt
      by (Out reg) is = tt
      by (Fork reg program) is = tt
      by (Join reg) is = tt
      by (Lock m) is = tt
      by (Unlock m) is = tt
      by (Wait k) is = tt
      by (Signal k) is = tt
      by (Io m) is = tt
      by (Touch page) is = is_plain.there page is
      by End is = tt

    pub touched_is : IsTouched (event_begun_at w seen.event p r) set.space (law_instr w r.state set.space t (block_at u.shared.threads t.0).pc)
    touched_is = subst (IsTouched (event_begun_at w seen.event p r) set.space) (sym instr_is) (by j refl) where
      by : (k : Instr) → j ≡ k → IsTouched (event_begun_at w seen.event p r) set.space k
      by Compute is = tt
      by (Set reg m) is = tt
      by (Add reg other) is = tt
      by (Sub reg other) is = tt
      by (Jnz reg target) is = tt
      by (Load reg cell) is = tt
      by (Store reg cell) is = tt
      by (Out reg) is = tt
      by (Fork reg program) is = tt
      by (Join reg) is = tt
      by (Lock m) is = tt
      by (Unlock m) is = tt
      by (Wait k) is = tt
      by (Signal k) is = tt
      by (Io m) is = tt
      by (Touch page) is = ap (λ m. is_page_resident m page) (sym i.sees.pages) ∙ is_plain.there page is
      by End is = tt

    -- THE STEP, whatever the context is after it
    module _ (state : ContextState) (out : section_in state ≡ None) (no_copy : in_copy state ≡ false)
        (ends_so : ((o.answer ≡ rans.Goes) × (carried_by state ≡ Some t)) ⊎ ((o.answer ≡ rans.Leaves) × (carried_by state ≡ None)))
        (step : stepped u seen (record { state = User t; sections = []; work = None }) ≡ did
        (pair with_ins (record { state = state; sections = []; work = o.work })) (run_says u.def seen.pages u.shared t)) where
      abbrev new : Context
      new = record { state = state; sections = []; work = o.work }

      abbrev x : Record
      x = records.Ins set.space t b.pc

      abbrev q : Readings
      q = after_record w n p r0 (records.Ins set.space t b.pc)

      pub ins : IsIns set e u cs i.stands s r0 k0 a t i.on.mine w n p life i.on.runs i.on.is i.on.space known def seen.pages state
      ins =
          ins-is set e u cs i.stands s r0 k0 a t i.on.mine w n p life i.on.runs i.on.is i.on.space known def seen.pages can state out no_copy ends_so

      out_needs : (k : Instr) → j ≡ k → AreSteps w n p q (outs set.space t (out_of b k))
      out_needs (Out reg) is =
          let made_too : t.0 < o.shared.state.lists.made =
          subst (λ k. t.0 < (outcome_of u.fetch seen.pages u.shared None t b k).shared.state.lists.made) (sym is) t_made in
          let fits = ins.held.space.threads t made_too in
          let block : block_at o.shared.threads t.0 ≡ next_of b =
          ap (λ k. block_at (outcome_of u.fetch seen.pages u.shared None t b k).shared.threads t.0) is
          ∙ get_or-set_same u.shared.threads t.0 (next_of b) unmade
          (inside set e u cs i.stands s r0 k0 a t i.on.mine w n p life i.on.runs i.on.is i.on.space known def seen.pages) in
          let instr : law_instr w q.state set.space t b.pc ≡ Out reg =
          ap (λ m. instr_at (slice_index_or (space_def w set.space).programs m []) b.pc) (fits.program ∙ ap (λ (z : Block). z.program) block)
          ∙ ap (λ (d : SpaceView). instr_at (slice_index_or d.programs b.program []) b.pc) def ∙ is in
          let regs : (thread_at q.state set.space t).regs ≡ b.regs = fits.regs ∙ ap (λ (z : Block). z.regs) block in (
            (
              i.on.owner,
              (
                refl,
                refl,
                subst (λ k. IsValueOf (thread_at q.state set.space t).regs k (reg_value b.regs reg)) (sym instr) (ap (λ z. reg_value z reg) (sym regs)),
              ),
            ),
            tt,
          )
      out_needs _ is = tt

      user-move : ((ev : Event) (last : Readings) (now : Life) → last.state ≡ q.state
          → IsBehind set seen.event with_ins (put cs a.0 (Some new)) a new now seen (after_records w n p r0 (x ∷ outs set.space t (out_of b j))) last
          → IsMarked (view new) (ends is_inside w r ev last x now)) → Move with_ins new
      user-move marks =
          let same = outs_same w n p q set.space t (out_of b j) in
          record {
            step = step ∙ ap (λ z. did (pair with_ins new) (says_of z t b seen.pages j)) space ∙ ap (did (pair with_ins new)) is_plain.says;
            first = refl;
            no_up = (outs_plain set.space t (out_of b j)).0;
            needs = (
              record {
                owned = i.on.owner;
                runs = runs_there;
                pc = thread_fits.pc;
                within = let at = (i.stands.parts.at t.0 t_made).pc in
                    let long : program_len w r.state set.space t ≡ _ =
                    ap (λ m. length (slice_index_or (space_def w set.space).programs m [])) thread_fits.program
                    ∙ ap (λ (d : SpaceView). length (slice_index_or d.programs b.program [])) def in omega arith;
                page = touched_is;
              },
              out_needs j refl,
            );
            back = sym i.own.back;
            held = outs-held set.space r0 q u with_ins a c new w n p t (out_of b j) ins.held;
            demands = same.1;
            taken = same.2;
            marks = λ ev last z. marks ev last _ (z.state ∙ same.0) z;
          }

      -- its ready lists are what they were, in the package and in the history
      pub ins-lists : (with_ins.shared.state.lists.lists ≡ u.shared.state.lists.lists) × ((after_records w n p r0
          (x ∷ outs set.space t (out_of b j))).ready ≡ r.ready)
      ins-lists = (ins.lists, outs_ready w n p q set.space t (out_of b j))

    -- the row of the table: the instruction with what it outputs
    pub ins-table : IsInsOf (law_instr w r.state set.space t (block_at u.shared.threads t.0).pc) (outs set.space t (out_of b j))
    ins-table = subst (λ k. IsInsOf k (outs set.space t (out_of b j))) (sym instr_is) is_plain.table

    -- IT GOES ON
    module _ (goes : o.answer ≡ rans.Goes) where
      g : IsGoing with_ins seen t o.work
      g = going with_ins seen t o.work

      abbrev pub behind_goes : Context
      behind_goes = record { state = goes_state t o.work; sections = []; work = o.work }

      goes-step : stepped u seen (record { state = User t; sections = []; work = None }) ≡ did (pair with_ins behind_goes)
          (run_says u.def seen.pages u.shared t)
      goes-step =
          ap (λ z. used_by with_ins seen (record { state = User t; sections = []; work = o.work }) t z (run_says u.def seen.pages u.shared t)) goes
          ∙ ap (λ z. did (pair with_ins z) (run_says u.def seen.pages u.shared t)) g.stays

      pub goes-move : Move with_ins behind_goes
      goes-move = user-move (goes_state t o.work) g.out g.no_copy (inl (goes, g.carries)) goes-step (λ ev last now state z.
          let ran = (ins (goes_state t o.work) g.out g.no_copy (inl (goes, g.carries)) goes-step).goes goes in
          record {
            inside = ap (λ y. is_inside w r ev last (not (is_running_or_blocked y)) now) (ap (λ y. (thread_at y set.space t).place) state ∙ ran)
                ∙ unsettled-inside set seen.event with_ins (put cs a.0 (Some behind_goes)) z.stands set.space last z.holds a
                (goes_state t o.work) [] o.work z.mine now z.there (ap is_gone z.stage) g.out g.no_copy w r ev
                ∙ g.inside;
            back = and_right now.cont false refl ∙ sym g.yields;
            scans = sym g.looks;
            left = g.left;
            lone = refl;
          })

      pub goes-lists : (with_ins.shared.state.lists.lists ≡ u.shared.state.lists.lists) × ((after_records w n p r0
          (records.Ins set.space t b.pc ∷ outs set.space t (out_of b j))).ready ≡ r.ready)
      goes-lists = ins-lists (goes_state t o.work) g.out g.no_copy (inl (goes, g.carries)) goes-step

    -- IT WAITS, or is done
    module _ (leaves : o.answer ≡ rans.Leaves) where
      abbrev left : Bool
      left = has_some [] || is_some o.work

      abbrev pub behind_leaves : Context
      behind_leaves = settled with_ins seen (record { state = User t; sections = []; work = o.work }) None

      leaves-step : stepped u seen (record { state = User t; sections = []; work = None }) ≡ did (pair with_ins behind_leaves)
          (run_says u.def seen.pages u.shared t)
      leaves-step = ap (λ z. used_by with_ins seen (record { state = User t; sections = []; work = o.work }) t z (run_says u.def seen.pages u.shared t)) leaves

      pub leaves-move : Move with_ins behind_leaves
      leaves-move =
          let state = settled_to None left (is_some (owed with_ins seen)) (has_bulk seen) in
          let between = settled_between None left (is_some (owed with_ins seen)) (has_bulk seen) in
          let no_copy = settled-copy None left (is_some (owed with_ins seen)) (has_bulk seen) in
          user-move state between.section no_copy (inr (leaves, between.carries)) leaves-step (λ ev last now same z.
          let gone = (ins state between.section no_copy (inr (leaves, between.carries)) leaves-step).leaves leaves in
          settled-marked set seen.event with_ins (put cs a.0 (Some behind_leaves)) z.stands set.space last z.holds a None seen [] o.work now z.there
          (ap is_gone z.stage) w r ev (records.Ins set.space t b.pc)
          z.mine z.demand z.taken (scene.processors set e u cs w r p a life c seen i) (z.carries ∙ between.carries)
          (ap not (ap (λ y. is_running_or_blocked (thread_at y set.space t).place) same ∙ gone)) refl (λ some. refl))

      pub leaves-lists : (with_ins.shared.state.lists.lists ≡ u.shared.state.lists.lists) × ((after_records w n p r0
          (records.Ins set.space t b.pc ∷ outs set.space t (out_of b j))).ready ≡ r.ready)
      leaves-lists =
          let between = settled_between None left (is_some (owed with_ins seen)) (has_bulk seen) in
          ins-lists (settled_to None left (is_some (owed with_ins seen)) (has_bulk seen)) between.section
          (settled-copy None left (is_some (owed with_ins seen)) (has_bulk seen)) (inr (leaves, between.carries)) leaves-step

  -- ALL OF THEM: what is shown of each kind is shown of the step
  pub record InsCases (Goal : Type 0) : Type 0 where
    pub goes : IsCalm (run u.def u.fetch seen.pages u.shared None t).answer → (run u.def u.fetch seen.pages u.shared None t).answer ≡ rans.Goes → Goal
    pub leaves : IsCalm (run u.def u.fetch seen.pages u.shared None t).answer → (run u.def u.fetch seen.pages u.shared None t).answer ≡ rans.Leaves → Goal
    pub blocks : (length : ℕ) (page : Option ℕ) → (run u.def u.fetch seen.pages u.shared None t).answer ≡ rans.Blocks length page → Goal

  pub ins-cases : (Goal : Type 0) → InsCases Goal → Goal
  ins-cases Goal cases = by (run u.def u.fetch seen.pages u.shared None t).answer refl where
    by : (ran : Ran) → (run u.def u.fetch seen.pages u.shared None t).answer ≡ ran → Goal
    by rans.Goes is = cases.goes (subst IsCalm (sym is) tt) is
    by rans.Leaves is = cases.leaves (subst IsCalm (sym is) tt) is
    by (rans.Blocks length page) is = cases.blocks length page is
