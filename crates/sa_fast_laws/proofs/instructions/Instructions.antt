-- An instruction after which its thread goes on, or waits or is done.
use Rattle.std.proofs.Common.{◌≡◌, ◌≢◌, ℕ, ◌≤◌, ◌<◌, Bool, true, false, ◌||◌, List, [], ◌++◌, map, length, slice_index_or, ◌⊎◌, Some, None, refl, sym, ap, ◌∙◌, subst, inl, inr, arith}
use Rattle.std.proofs.lemmas.Bool.{cases_lt}
use Rattle.std.proofs.lemmas.List.{get_or-set_same, get_or-set_other}
use Rattle.std.proofs.lemmas.Option.{same_Some}
use Rattle.sa_base.specs.declared.number.ActNo.{ActNo}
use Rattle.sa_base.specs.declared.number.ProcNo.{ProcNo}
use Rattle.sa_base.specs.declared.number.SpaceNo.{SpaceNo}
use Rattle.sa_base.specs.declared.number.ThreadNo.{ThreadNo}
use Rattle.sa_base.specs.declared.record.Record.TheVariants.{Ins}
use Rattle.sa_lemmas.specs.Function.{put}
use Rattle.sa_instr.specs.Local.{instr_at}
use Rattle.sa_instr.specs.declared.instr.Instr.{Instr}
use Rattle.sa_spaces.specs.Space.{IsSpace}
use Rattle.sa_spaces.specs.Workload.{WorkloadView}
use Rattle.sa_links.specs.Lists.{list_at, count_in}
use Rattle.sa_fast.proofs.RunSteps.{made_below, unmade_above, run-step}
use Rattle.sa_fast.specs.Instruction.{Outcome, run, instr_of}
use Rattle.sa_fast.specs.Rest.{one_where, empty_at, is_unmade, place_at}
use Rattle.sa_fast.specs.Threads.{unmade, block_at, with_block, is_loaded, load_of as loaded}
use Rattle.sa_fast.specs.Work.{work_of, with_name}
use Rattle.sa_fast.specs.declared.instruction.Ran.TheVariants.{Goes, Leaves}
use Rattle.sa_fast.specs.declared.threads.Block.{Block}
use Rattle.sa_fast.specs.declared.threads.KeptPlace.{KeptPlace}
use Rattle.sa_fast.specs.declared.threads.KeptPlace.TheVariants as fast
use Rattle.sa_abstract.specs.Calls.{Contexts}
use Rattle.sa_abstract.specs.Setting.{Setting}
use Rattle.sa_package_model.proofs.Holding.{own_made, own_below, own_rest, own_work, rest_unlisted, rest_once}
use Rattle.sa_package_model.specs.Context.{carried_by, section_in}
use Rattle.sa_package_model.specs.Hands.{threads_of, name_of}
use Rattle.sa_package_model.specs.Rules.{with_shared, load}
use Rattle.sa_package_model.specs.Stands.{IsStanding}
use Rattle.sa_package_model.specs.declared.context.Context.{Context}
use Rattle.sa_package_model.specs.declared.context.ContextState.{ContextState}
use Rattle.sa_package_model.specs.declared.context.ContextState.TheVariants.{User}
use Rattle.sa_package_model.specs.declared.package.Package.{Package}
use Rattle.sa_laws.specs.Effect.{Effect, effect_of}
use Rattle.sa_laws.specs.History.{is_running_or_blocked}
use Rattle.sa_laws.specs.Life.{Life, with_hand}
use Rattle.sa_laws.specs.Machine.{next_effect}
use Rattle.sa_laws.specs.Readings.{Readings, running_of, life_of}
use Rattle.sa_laws.specs.Record.{after_record}
use Rattle.sa_laws.specs.State.{Thread, at_start, space_at, space_def, thread_in, thread_at, is_active, active_threads, next_instr}
use Rattle.sa_laws.specs.declared.place.Place.{Place}
use Rattle.sa_laws.specs.declared.place.Place.TheVariants as place
use Rattle.sa_fast_laws.proofs.relation.Hands.{split, held-append}
use Rattle.sa_fast_laws.proofs.relation.OneLife.{IsHeld, carried_one}
use Rattle.sa_fast_laws.proofs.relation.Places.{space-here, active-with, loaded-with, life-changed, same-threads, load-moves}
use Rattle.sa_fast_laws.proofs.relation.ThreadsBeside.{life-here}
use Rattle.sa_fast_laws.specs.FastFits.{FitsShared, Holds, SitsIn}
use Rattle.sa_fast_laws.specs.Life.{number_of, pushed_in, locks_from, carried, count_if, held, HasHand, HasLife}
use Rattle.sa_fast_laws.specs.Stage.{stage_of, is_gone, is_running, place_of, kept_of, Runs}
use Rattle.sa_fast_laws.specs.View.{view, in_copy}
use Rattle.sa_fast_laws.proofs.instructions.Effects.{FitsEffect, Changes, IsThere, AnswerIs, effect-fits, effect-changes}
use Rattle.sa_fast_laws.proofs.instructions.Gains.{gained-all}

module _ (set : Setting) (e : ℕ) (u : Package) (cs : Contexts Context) (h : IsStanding set e u cs) (s : SpaceNo) (r : Readings) (k : Holds s r u cs)
    (a : ActNo) (t : ThreadNo) (is : cs a.0 ≡ Some (record { state = User t; sections = []; work = None }))
    (w : WorkloadView) (number : ℕ) (p : ProcNo) (life : Life) (runs : running_of r p ≡ Some a) (there : life_of r a ≡ Some life)
    (of : life.space ≡ s)
    (known : s.0 < length r.state.spaces) (def : space_def w s ≡ u.def) (pages : ℕ) where
  abbrev c : Context
  c = record { state = User t; sections = []; work = None }

  abbrev b : Block
  b = block_at u.shared.threads t.0

  abbrev i : Instr
  i = instr_of u.def b

  abbrev o : Outcome
  o = run u.def u.fetch pages u.shared None t

  abbrev ys : List Thread
  ys = (space_at r.state s).threads

  abbrev zp : Place
  zp = (thread_at r.state s t).place

  abbrev f : Effect
  f = effect_of (record { threads = ys; sync = u.shared.sync }) t (record { program = b.program; pc = b.pc; regs = b.regs; place = zp }) i

  abbrev q : Readings
  q = after_record w number p r (Ins s t b.pc)

  abbrev v : Package
  v = with_shared u o.shared

  l : HasLife s u.shared (space_at r.state s) (stage_of r s a life) (view c) life
  l = life-here s r u cs k a c life is there

  stage : stage_of r s a life ≡ Runs
  stage = (k.runs p a life runs there of).2

  in_hand : 1 ≤ threads_of u.shared.works (Some c) t.0
  in_hand = let all = split u.shared.works c t.0 in let one = carried_one c t refl in omega arith

  pub made : t.0 < u.shared.state.lists.made
  made = own_made set e u cs h a.0 c is t.0 in_hand

  pub inside : t.0 < length u.shared.threads
  inside = let less = own_below set e u cs h a.0 c is t.0 in_hand in let all = h.parts.blocks in omega arith

  below : t.0 < length ys
  below = let all = k.space.made in let less = made in omega arith

  kept : b.place ≡ fast.Running
  kept = l.kept t refl ∙ ap kept_of stage

  runs_there : zp ≡ place.Running life.proc
  runs_there = l.place t refl ∙ ap (λ g. place_of g life.proc) stage

  pub fits_now : FitsShared u.shared (record { threads = ys; sync = u.shared.sync })
  fits_now = record { made = k.space.made; threads = k.space.threads; sync = refl }

  pub sits : SitsIn b.place zp
  sits = (k.space.threads t made).place

  -- the abstract machine's effect is that of the same thread at the same instruction
  thread_is : thread_at r.state s t ≡ record { program = b.program; pc = b.pc; regs = b.regs; place = zp }
  thread_is =
      let same = k.space.threads t made in let old = thread_at r.state s t in
      ap (λ n. record { program = n; pc = old.pc; regs = old.regs; place = zp }) same.program
      ∙ ap (λ n. record { program = b.program; pc = n; regs = old.regs; place = zp }) same.pc
      ∙ ap (λ xs. record { program = b.program; pc = b.pc; regs = xs; place = zp }) same.regs

  pub instr_is : next_instr w r.state s t ≡ i
  instr_is =
      ap (λ (z : Thread). instr_at (slice_index_or (space_def w s).programs z.program []) z.pc) thread_is
      ∙ ap (λ d. instr_at (slice_index_or d.programs b.program []) b.pc) def

  pub effect_is : next_effect w r.state s t ≡ f
  effect_is =
      ap (λ x. effect_of (record { threads = ys; sync = x }) t (thread_at r.state s t) (next_instr w r.state s t)) k.space.sync
      ∙ ap (λ z. effect_of (record { threads = ys; sync = u.shared.sync }) t z (next_instr w r.state s t)) thread_is
      ∙ ap (λ j. effect_of (record { threads = ys; sync = u.shared.sync }) t (record { program = b.program; pc = b.pc; regs = b.regs; place = zp }) j) instr_is

  module _ (can : IsThere u.shared ys None t b zp fits_now sits made inside pages i)
      -- what the package's instruction does to lists and to work lists
      (lists : o.shared.state.lists.lists ≡ u.shared.state.lists.lists)
      (works : (m : ℕ) → name_of (Some c) m ≡ 0 → empty_at u.shared.works m ≡ 0 → list_at o.shared.works m ≡ list_at u.shared.works m)
      (gains : (n : ℕ) → count_in n (work_of o.shared.works o.work) ≡ count_in n (map number_of f.roused)) where
    fits : FitsEffect u.shared None o f
    fits = effect-fits u.shared ys None t b zp fits_now sits made inside u.fetch pages i h.parts.threads h.parts.blocks can

    unmade_next : is_loaded (block_at u.shared.threads (length ys)).place ≡ false
    unmade_next =
        let all = k.space.made in
        let past = unmade_above u.shared.state.lists (length ys) (omega arith) in
        let agrees = h.places (length ys) in
        unloaded (place_at u.shared (length ys)) (one_is (is_unmade (place_at u.shared (length ys))) (let is_it = agrees.new in omega arith)) where
          one_is : (x : Bool) → one_where x ≡ 1 → x ≡ true
          one_is true same = refl
          one_is false same = absurd (omega arith)

          unloaded : (x : KeptPlace) → is_unmade x ≡ true → is_loaded x ≡ false
          unloaded fast.Unmade same = refl
          unloaded fast.Ready same = absurd cc
          unloaded fast.Running same = absurd cc
          unloaded fast.Waiting same = refl
          unloaded fast.Blocked same = refl
          unloaded fast.Carried same = refl
          unloaded fast.Done same = refl

    changes : Changes u.shared ys None t b zp fits_now sits made inside o f
    changes = effect-changes u.shared ys None t b zp fits_now sits made inside u.fetch pages i h.parts.threads h.parts.blocks unmade_next can

    state_is : space_at q.state s ≡ f.space
    state_is = space-here r.state s (next_effect w r.state s t).space known ∙ ap (λ (x : Effect). x.space) effect_is

    place_here : (thread_in (space_at q.state s) t).place ≡ changes.changed.place
    place_here = ap (λ x. (thread_in x t).place) state_is
        ∙ ap (λ (x : Thread). x.place) (changes.threads t made ∙ get_or-set_same ys t.0 changes.changed (at_start 0 place.Done) below)

    place_there : (n : ThreadNo) → n.0 ≢ t.0 → n.0 < u.shared.state.lists.made
        → (thread_in (space_at q.state s) n).place ≡ (thread_in (space_at r.state s) n).place
    place_there n ne less = ap (λ x. (thread_in x n).place) state_is
        ∙ ap (λ (x : Thread). x.place) (changes.threads n less ∙ get_or-set_other ys t.0 n.0 changes.changed (at_start 0 place.Done) ne)

    kept_here : place_at o.shared t.0 ≡ changes.block.place
    kept_here = ap (λ (x : Block). x.place) (changes.blocks t.0 made ∙ get_or-set_same u.shared.threads t.0 changes.block unmade inside)

    kept_there : (n : ThreadNo) → n.0 ≢ t.0 → n.0 < u.shared.state.lists.made → place_at o.shared n.0 ≡ place_at u.shared n.0
    kept_there n ne less = ap (λ (x : Block). x.place) (changes.blocks n.0 less ∙ get_or-set_other u.shared.threads t.0 n.0 changes.block unmade ne)

    abbrev after : Life
    after = with_hand (next_effect w r.state s t).roused life

    lives_now : q.lives ≡ put r.lives a.0 (Some (with_hand (next_effect w r.state s t).roused life))
    lives_now = life-changed (with_hand (next_effect w r.state s t).roused) r p a life runs there

    -- after it the context is in no section, and carries the thread exactly where it goes on
    module _ (state : ContextState) (out : section_in state ≡ None) (no_copy : in_copy state ≡ false)
        (ends : ((o.answer ≡ Goes) × (carried_by state ≡ Some t)) ⊎ ((o.answer ≡ Leaves) × (carried_by state ≡ None))) where
      abbrev new : Context
      new = record { state = state; sections = []; work = o.work }

      loads_alike : one_where (is_loaded changes.block.place) ≡ one_where (is_active changes.changed.place)
      loads_alike = elim ends [
        | inl goes ↦
            let is_so =
            subst (λ x. AnswerIs u.shared ys None t b zp fits_now sits made inside x changes.block.place changes.changed.place) goes.0 changes.answers in
            ap (λ x. one_where (is_loaded x)) (is_so.0 ∙ kept) ∙ sym (ap (λ x. one_where (is_active x)) (is_so.1 ∙ runs_there))
        | inr leaves ↦
            let is_so =
            subst (λ x. AnswerIs u.shared ys None t b zp fits_now sits made inside x changes.block.place changes.changed.place) leaves.0 changes.answers in
            ap one_where is_so.0 ∙ sym (ap one_where is_so.1)
      ]

      hand_now : HasHand o.shared.works (view new) (is_gone (stage_of r s a life)) (life.hand ++ (next_effect w r.state s t).roused)
      hand_now = record {
        all = λ n some.
            let sum = held-append life.hand (next_effect w r.state s t).roused n in
            let same : held (next_effect w r.state s t).roused n ≡ held f.roused n = ap (λ (x : Effect). held x.roused n) effect_is in
            let pushed : pushed_in (section_in state) n ≡ 0 = ap (λ x. pushed_in x n) out in
            let all = gains n in omega arith;
        own = λ gone n some. absurd (let no_gone : is_gone (stage_of r s a life) ≡ false = ap is_gone stage in cc);
        only = λ n some.
            let sum = held-append life.hand (next_effect w r.state s t).roused n in
            let same : held (next_effect w r.state s t).roused n ≡ held f.roused n = ap (λ (x : Effect). held x.roused n) effect_is in
            let all = gains n in
            elim (cases_lt (held life.hand n) 1) [
              | inl none ↦ omega arith
              | inr more ↦ absurd (
                  let had = l.hand.only n more in
                  let own : count_if (is_gone (stage_of r s a life) || false) (carried (view c) n) ≡ 0 =
                  ap (λ g. count_if (is_gone g || false) (carried (view c) n)) stage in
                  omega arith)
            ];
      }

      pub ins-held : IsHeld s r q u v a c new
      ins-held = record {
        space = subst (FitsShared o.shared) (sym state_is) fits.space;
        load =
            let moves = load-moves r q s (same-threads r q a life after there lives_now refl) refl in
            let active : active_threads (space_at q.state s) ≡ active_threads f.space = ap active_threads state_is in
            let actives = changes.actives in
            let one = active-with (record { threads = ys; sync = u.shared.sync }) t changes.changed below in
            let two = loaded-with u.shared.threads t.0 changes.block inside in
            let three : load v ≡ loaded (with_block u.shared.threads t.0 changes.block) = changes.loads in
            let ran_there : one_where (is_active (thread_at r.state s t).place) ≡ 1 = ap (λ x. one_where (is_active x)) runs_there in
            let ran_here : one_where (is_loaded b.place) ≡ 1 = ap (λ x. one_where (is_loaded x)) kept in
            let alike = loads_alike in
            let was = k.load in omega arith;
        was = life;
        life = after;
        lives = lives_now;
        old = there;
        stays = (refl, refl);
        untold = refl;
        running = refl;
        mine = record {
          space = l.space;
          locks = l.locks ∙ sym (ap (λ x. locks_from (in_copy state) x []) out);
          cont = l.cont ∙ sym no_copy;
          hand = hand_now;
          place = λ n at. elim ends [
            | inl goes ↦
                let same : t ≡ n = same_Some t n (sym goes.1 ∙ at) in
                let is_so =
                subst (λ x. AnswerIs u.shared ys None t b zp fits_now sits made inside x changes.block.place changes.changed.place) goes.0 changes.answers in
                ap (λ m. (thread_in (space_at q.state s) m).place) (sym same) ∙ place_here ∙ is_so.1 ∙ l.place t refl
            | inr leaves ↦ absurd (let none = sym leaves.1 ∙ at in cc)
          ];
          kept = λ n at. elim ends [
            | inl goes ↦
                let same : t ≡ n = same_Some t n (sym goes.1 ∙ at) in
                let is_so =
                subst (λ x. AnswerIs u.shared ys None t b zp fits_now sits made inside x changes.block.place changes.changed.place) goes.0 changes.answers in
                ap (λ (m : ThreadNo). place_at o.shared m.0) (sym same) ∙ kept_here ∙ is_so.0 ∙ l.kept t refl
            | inr leaves ↦ absurd (let none = sym leaves.1 ∙ at in cc)
          ];
          stopped = λ n some. absurd (omega arith);
          named = λ no_run. absurd (let yes : is_running (stage_of r s a life) ≡ true = ap is_running stage in cc);
        };
        places = λ n rest none. place_there n (not_here n none) (made_below u.shared.state.lists n.0 (omega arith));
        kept = λ n rest none. kept_there n (not_here n none) (made_below u.shared.state.lists n.0 (omega arith));
        works = works;
      } where
        not_here : (n : ThreadNo) → threads_of u.shared.works (Some c) n.0 ≡ 0 → n.0 ≢ t.0
        not_here n none same = let some = in_hand in
            let at_t : threads_of u.shared.works (Some c) t.0 ≡ 0 = subst (λ m. threads_of u.shared.works (Some c) m ≡ 0) same none in omega arith

    pub ins-goes : o.answer ≡ Goes → (thread_in (space_at q.state s) t).place ≡ place.Running life.proc
    ins-goes goes =
        let is_so =
        subst (λ x. AnswerIs u.shared ys None t b zp fits_now sits made inside x changes.block.place changes.changed.place) goes changes.answers in
        place_here ∙ is_so.1 ∙ runs_there

    pub ins-leaves : o.answer ≡ Leaves → is_running_or_blocked (thread_in (space_at q.state s) t).place ≡ false
    ins-leaves leaves =
        let is_so =
        subst (λ x. AnswerIs u.shared ys None t b zp fits_now sits made inside x changes.block.place changes.changed.place) leaves changes.answers in
        ap is_running_or_blocked place_here ∙ is_so.2

  -- ALL OF IT: what the package's instruction does is known from what all of them are
  pub record IsIns (state : ContextState) : Type 0 where
    pub held : IsHeld s r q u v a c (record { state = state; sections = []; work = o.work })
    pub lists : o.shared.state.lists.lists ≡ u.shared.state.lists.lists
    pub goes : o.answer ≡ Goes → (thread_in (space_at q.state s) t).place ≡ place.Running life.proc
    pub leaves : o.answer ≡ Leaves → is_running_or_blocked (thread_in (space_at q.state s) t).place ≡ false

  pub ins-is : (can : IsThere u.shared ys None t b zp fits_now sits made inside pages i) (state : ContextState) → section_in state ≡ None
      → in_copy state ≡ false
      → ((o.answer ≡ Goes) × (carried_by state ≡ Some t)) ⊎ ((o.answer ≡ Leaves) × (carried_by state ≡ None))
      → IsIns state
  ins-is can state out no_copy ends =
      let step = run-step u.def u.processors e u.fetch pages u.shared None t (subst IsSpace (sym h.made.def) h.made.setting.def) h.parts
      (own_work set e u cs h a.0 c is) (own_rest set e u cs h a.0 c is t.0 in_hand) (rest_unlisted set e u cs h) (rest_once set e u cs h) in
      let effect = effect-fits u.shared ys None t b zp fits_now sits made inside u.fetch pages i h.parts.threads h.parts.blocks can in
      let gains = gained-all u.shared.works (map number_of f.roused) (with_name o.shared.works o.work) step.gained effect.works step.works in
      record {
        lists = step.lists;
        held = ins-held can step.lists (λ m none some. step.works.others m none some) gains state out no_copy ends;
        goes = ins-goes can step.lists (λ m none some. step.works.others m none some) gains;
        leaves = ins-leaves can step.lists (λ m none some. step.works.others m none some) gains;
      }
