-- The move of an instruction for an I/O: the instruction and its block in one event.
use Rattle.std.proofs.Common.{◌≡◌, ℕ, ◌+◌, false, ◌&&◌, [], ◌∷◌, Option, Some, None, is_some, slice_index_or, refl, sym, ap, ◌∙◌, subst, inl, inr, arith}
use Rattle.std.specs.Prelude.{length, ◌<◌, not, if◌then◌else◌, ◌≢◌, ◌==◌}
use Rattle.std.proofs.lemmas.Bool.{cases_eq, eq-eqb, and_right}
use Rattle.std.proofs.lemmas.List.{get_or-set_same, length-set, append-nil, get_or-set_other}
use Rattle.std.proofs.lemmas.Option.{same_Some}
use Rattle.std.specs.Option.{option_map}
use Rattle.sa_base.specs.declared.context.Seen.{Seen}
use Rattle.sa_base.specs.declared.number.ActNo.{ActNo}
use Rattle.sa_base.specs.declared.number.IoNo.{IoNo}
use Rattle.sa_base.specs.declared.number.ProcNo.{ProcNo}
use Rattle.sa_base.specs.declared.number.SpaceNo.{SpaceNo}
use Rattle.sa_base.specs.declared.number.ThreadNo.{ThreadNo}
use Rattle.sa_base.specs.declared.record.Record.{Record}
use Rattle.sa_base.specs.declared.record.Record.TheVariants as records
use Rattle.sa_lemmas.proofs.FunctionUpdates.{put-self, put-same}
use Rattle.sa_lemmas.specs.Function.{put}
use Rattle.sa_instr.specs.Local.{instr_at}
use Rattle.sa_instr.specs.declared.instr.Instr.TheVariants.{Io}
use Rattle.sa_spaces.specs.Space.{SpaceView}
use Rattle.sa_spaces.specs.Workload.{WorkloadView}
use Rattle.sa_fast.specs.Instruction.{says_of, outcome_of, instr_of, next_of, with_thread}
use Rattle.sa_fast.specs.Rest.{place_at, one_where}
use Rattle.sa_fast.specs.Threads.{unmade, block_at, moved_to}
use Rattle.sa_fast.specs.declared.threads.Block.{Block}
use Rattle.sa_fast.specs.declared.threads.KeptPlace.TheVariants as kept
use Rattle.sa_abstract.specs.Calls.{Contexts, Stepped}
use Rattle.sa_abstract.specs.Setting.{Setting}
use Rattle.sa_abstract.specs.declared.answer.Step.TheVariants as asked
use Rattle.sa_package_model.specs.Rules.{with_shared, used_by, placed_in}
use Rattle.sa_package_model.specs.Stands.{IsStanding}
use Rattle.sa_package_model.specs.Step.{stepped}
use Rattle.sa_package_model.specs.declared.context.Context.{Context}
use Rattle.sa_package_model.specs.declared.context.ContextState.TheVariants.{User}
use Rattle.sa_package_model.specs.declared.package.Package.{Package}
use Rattle.sa_laws.specs.Effect.{Effect, effect, effect_of, next}
use Rattle.sa_laws.specs.History.{is_inside, is_running_or_blocked}
use Rattle.sa_laws.specs.Life.{Life, held_with, with_hand}
use Rattle.sa_laws.specs.Machine.{next_effect}
use Rattle.sa_laws.specs.Readings.{Readings, life_of}
use Rattle.sa_laws.specs.Record.{after_record, with_life, length_behind, length_in}
use Rattle.sa_laws.specs.State.{runner_on, runner_of, space_at, Thread, thread_at, thread_in, space_def, program_len, next_instr, instr_of as law_instr, active_threads, is_active, with_thread as law_thread, put_thread, SpaceState, no_threads}
use Rattle.sa_laws.specs.Step.{IsTouched, AreSteps, Needs}
use Rattle.sa_laws.specs.declared.place.Place.TheVariants as place
use Rattle.sa_user_laws.proofs.Runners.{own-elsewhere, runner-is}
use Rattle.sa_user_laws.specs.Scene.{event_begun_at}
use Rattle.sa_fast_laws.proofs.relation.EventEnds.{begun-holds}
use Rattle.sa_fast_laws.proofs.relation.InPlace.{IsInPlace, in-place}
use Rattle.sa_fast_laws.proofs.relation.InsideMarks.{has-left}
use Rattle.sa_fast_laws.proofs.relation.Places.{space-here, spaces-many, thread-here, thread-there, active-with, loaded-with, life-changed}
use Rattle.sa_fast_laws.proofs.relation.Runners.{runs-alone}
use Rattle.sa_fast_laws.specs.FastFits.{Holds, FitsThread}
use Rattle.sa_fast_laws.specs.Stage.{stage_of, is_gone}
use Rattle.sa_fast_laws.proofs.notices.Blocks.{block-holds, block-stays}
use Rattle.sa_fast_laws.proofs.notices.Blocks as blocks
use Rattle.sa_fast_laws.proofs.steps.Scenes.{IsScene}
use Rattle.sa_fast_laws.proofs.steps.Scenes as scene
use Rattle.sa_fast_laws.proofs.user_steps.BlockMoves.{IsBlocked, inside-at}
use Rattle.sa_fast_laws.proofs.user_steps.UserMoves.{instr_is, thread_fits, runs_there, t_made, t_below}

module _ (set : Setting) (e : ℕ) (u : Package) (cs : Contexts Context) (w : WorkloadView) (r : Readings) (p : ProcNo) (a : ActNo) (life : Life)
    (seen : Seen)
    (t : ThreadNo) (i : IsScene set e u cs w r p a life (record { state = User t; sections = []; work = None }) seen) (m : ℕ)
    (is : instr_of u.def (block_at u.shared.threads t.0) ≡ Io m) (io : IoNo) where
  abbrev c : Context
  c = record { state = User t; sections = []; work = None }

  abbrev s : SpaceNo
  s = set.space

  abbrev r0 : Readings
  r0 = event_begun_at w seen.event p r

  abbrev n : ℕ
  n = seen.event

  abbrev b : Block
  b = block_at u.shared.threads t.0

  abbrev y : SpaceState
  y = space_at r.state set.space

  abbrev z : Thread
  z = thread_in (space_at r.state set.space) t

  abbrev v : Package
  v = with_shared u (with_thread u.shared t (moved_to (next_of (block_at u.shared.threads t.0)) kept.Blocked))

  abbrev vb : Package
  vb = placed_in u (Some t) kept.Blocked

  abbrev q1 : Readings
  q1 = after_record w n p r0 (records.Ins set.space t b.pc)

  abbrev here : Readings
  here = after_record w n p q1 (records.Block set.space (Some t) a io)

  abbrev qb : Readings
  qb = after_record w n p r0 (records.Block set.space (Some t) a io)

  k0 : Holds set.space (event_begun_at w seen.event p r) u cs
  k0 = begun-holds set.space r u cs w (record { number = seen.event; proc = p; records = [] }) i.holds

  known : set.space.0 < length r.state.spaces
  known = scene.known set e u cs w r p a life c seen i

  made : t.0 < u.shared.state.lists.made
  made = t_made set e u cs w r p a life seen t i

  inside : t.0 < length u.shared.threads
  inside = t_below set e u cs w r p a life seen t i

  below : t.0 < length y.threads
  below = let all = i.holds.space.made in let mine = made in omega arith

  next_is : next_instr w r.state set.space t ≡ Io m
  next_is = ap (law_instr w r.state set.space t) (thread_fits set e u cs w r p a life seen t i).pc ∙ instr_is set e u cs w r p a life seen t i ∙ is

  effect_is : next_effect w r.state set.space t ≡ effect (law_thread y t (next z)) []
  effect_is = ap (effect_of y t z) next_is

  space_1 : space_at q1.state set.space ≡ law_thread y t (next z)
  space_1 = space-here r.state set.space (next_effect w r.state set.space t).space known ∙ ap (λ (f : Effect). f.space) effect_is

  known_1 : set.space.0 < length q1.state.spaces
  known_1 = let same = spaces-many r.state set.space (next_effect w r.state set.space t).space in let less = known in omega arith

  space_2 : space_at here.state set.space ≡ put_thread place.Blocked (law_thread y t (next z)) t
  space_2 = space-here q1.state set.space (put_thread place.Blocked (space_at q1.state set.space) t) known_1
      ∙ ap (λ x. put_thread place.Blocked x t) space_1

  space_b : space_at qb.state set.space ≡ put_thread place.Blocked y t
  space_b = space-here r.state set.space (put_thread place.Blocked y t) known

  lives_1 : q1.lives ≡ r.lives
  lives_1 =
      life-changed (with_hand (next_effect w r.state set.space t).roused) r0 p a life i.on.runs i.on.is
      ∙ ap (λ (f : Effect). put r.lives a.0 (Some (with_hand f.roused life))) effect_is
      ∙ ap (λ xs. put r.lives a.0 (Some (record life { hand = xs }))) (append-nil life.hand)
      ∙ ap (put r.lives a.0) (sym i.on.is) ∙ put-self r.lives a.0

  within : t.0 < length (law_thread y t (next z)).threads
  within = let same = length-set y.threads t.0 (next z) in let less = below in omega arith

  abbrev blocked : Thread
  blocked = record (thread_in (law_thread y t (next z)) t) { place = place.Blocked }

  blocked_is : blocked ≡ record (next z) { place = place.Blocked }
  blocked_is = ap (λ (x : Thread). record x { place = place.Blocked }) (thread-here y t (next z) below)

  other_is : (j : ThreadNo) → j.0 ≢ t.0 → thread_in (space_at here.state set.space) j ≡ thread_in y j
  other_is j ne = ap (λ x. thread_in x j) space_2 ∙ thread-there (law_thread y t (next z)) t j blocked ne ∙ thread-there y t j (next z) ne

  own_is : thread_in (space_at here.state set.space) t ≡ record (next z) { place = place.Blocked }
  own_is = ap (λ x. thread_in x t) space_2 ∙ thread-here (law_thread y t (next z)) t blocked within ∙ blocked_is

  pub io-in_place : IsInPlace set.space qb here vb v
  io-in_place = record {
    fits = record {
      made = ap (λ (x : SpaceState). length x.threads) space_2 ∙ length-set (law_thread y t (next z)).threads t.0 blocked
          ∙ length-set y.threads t.0 (next z) ∙ i.holds.space.made;
      threads = λ j less. elim (cases_eq j.0 t.0) [
        | inl same ↦
            let one : j ≡ t = ap (λ x. record { 0 = x }) same in
            let old = thread_fits set e u cs w r p a life seen t i in
            subst (λ x. FitsThread (block_at v.shared.threads x.0) (thread_in (space_at here.state set.space) x)) (sym one)
            (subst (λ x. FitsThread x (thread_in (space_at here.state set.space) t))
            (sym (get_or-set_same u.shared.threads t.0 (moved_to (next_of b) kept.Blocked) unmade inside))
            (subst (FitsThread (moved_to (next_of b) kept.Blocked)) (sym own_is)
            (record { program = old.program; pc = ap (λ k. k + 1) old.pc; regs = old.regs; place = tt })))
        | inr ne ↦
            subst (λ x. FitsThread x (thread_in (space_at here.state set.space) j))
            (sym (get_or-set_other u.shared.threads t.0 j.0 (moved_to (next_of b) kept.Blocked) unmade ne))
            (subst (FitsThread (block_at u.shared.threads j.0)) (sym (other_is j ne)) (i.holds.space.threads j less))
      ];
      sync = ap (λ (x : SpaceState). x.sync) space_2 ∙ i.holds.space.sync;
    };
    places = λ j. elim (cases_eq j.0 t.0) [
      | inl e ↦
          let one : j ≡ t = ap (λ x. record { 0 = x }) e in
          ap (λ x. (thread_in (space_at here.state set.space) x).place) one ∙ ap (λ (x : Thread). x.place) own_is
          ∙ sym
          (ap (λ x. (thread_in (space_at qb.state set.space) x).place) one ∙ ap (λ x. (thread_in x t).place) space_b
          ∙ ap (λ (x : Thread). x.place) (thread-here y t (record z { place = place.Blocked }) below))
      | inr ne ↦
          ap (λ (x : Thread). x.place) (other_is j ne)
          ∙ sym (ap (λ x. (thread_in x j).place) space_b ∙ ap (λ (x : Thread). x.place) (thread-there y t j (record z { place = place.Blocked }) ne))
    ];
    active =
        let one = active-with y t (next z) below in
        let two = active-with (law_thread y t (next z)) t blocked within in
        let mid : one_where (is_active (thread_in (law_thread y t (next z)) t).place) ≡ one_where (is_active z.place) =
        ap (λ (x : Thread). one_where (is_active x.place)) (thread-here y t (next z) below) in
        let three = active-with y t (record z { place = place.Blocked }) below in
        let now = ap active_threads space_2 in let old = ap active_threads space_b in omega arith;
    loads =
        let one = loaded-with u.shared.threads t.0 (moved_to (next_of b) kept.Blocked) inside in
        let two = loaded-with u.shared.threads t.0 (moved_to b kept.Blocked) inside in omega arith;
    kept = λ j. elim (cases_eq j t.0) [
      | inl e ↦
          ap (place_at v.shared) e
          ∙ ap (λ (x : Block). x.place) (get_or-set_same u.shared.threads t.0 (moved_to (next_of b) kept.Blocked) unmade inside)
          ∙ sym (ap (place_at vb.shared) e ∙ ap (λ (x : Block). x.place) (get_or-set_same u.shared.threads t.0 (moved_to b kept.Blocked) unmade inside))
      | inr ne ↦
          ap (λ (x : Block). x.place) (get_or-set_other u.shared.threads t.0 j (moved_to (next_of b) kept.Blocked) unmade ne)
          ∙ sym (ap (λ (x : Block). x.place) (get_or-set_other u.shared.threads t.0 j (moved_to b kept.Blocked) unmade ne))
    ];
    works = refl;
    untold = refl;
    running = refl;
    lives = ap (with_life (held_with (Some t)) (Some a)) lives_1;
  }

  -- after the block all fits
  pub io-holds : Holds set.space here v cs
  io-holds = in-place set.space qb here vb v cs io-in_place
      (block-holds set e u cs i.stands set.space r0 k0 a c i.on.mine w n p life i.on.runs i.on.is i.on.space known
      (scene.heard set e u cs w r p a life c seen i) (scene.procs set e u cs w r p a life c seen i) io)

-- THE STEP: the instruction, and after it a block for its I/O
module _ (set : Setting) (e : ℕ) (u : Package) (cs : Contexts Context) (w : WorkloadView) (r : Readings) (p : ProcNo) (a : ActNo) (life : Life)
    (seen : Seen)
    (t : ThreadNo) (i : IsScene set e u cs w r p a life (record { state = User t; sections = []; work = None }) seen) (m : ℕ)
    (is : instr_of u.def (block_at u.shared.threads t.0) ≡ Io m) where
  abbrev d : Context
  d = record { state = User t; sections = []; work = None }

  abbrev pub x : Record
  x = records.Ins set.space t (block_at u.shared.threads t.0).pc

  abbrev pub q : Readings
  q = after_record w seen.event p (event_begun_at w seen.event p r) (records.Ins set.space t (block_at u.shared.threads t.0).pc)

  abbrev pub with_io : Package
  with_io = with_shared u (with_thread u.shared t (moved_to (next_of (block_at u.shared.threads t.0)) kept.Blocked))

  no_io : IoNo
  no_io = record { 0 = 0 }

  space_is : space_at q.state set.space ≡ law_thread (space_at r.state set.space) t (next (thread_in (space_at r.state set.space) t))
  space_is = space_1 set e u cs w r p a life seen t i m is no_io

  inside_t : t.0 < length (space_at r.state set.space).threads
  inside_t = below set e u cs w r p a life seen t i m is no_io

  own_thread : thread_at q.state set.space t ≡ next (thread_in (space_at r.state set.space) t)
  own_thread = ap (λ y. thread_in y t) space_is
      ∙ thread-here (space_at r.state set.space) t (next (thread_in (space_at r.state set.space) t)) inside_t

  place_same : (j : ThreadNo) → (thread_at q.state set.space j).place ≡ (thread_at r.state set.space j).place
  place_same j = elim (cases_eq j.0 t.0) [
    | inl same ↦
        let one : j ≡ t = ap (λ y. record { 0 = y }) same in
        ap (λ y. (thread_at q.state set.space y).place) one ∙ ap (λ (y : Thread). y.place) own_thread
        ∙ sym (ap (λ y. (thread_at r.state set.space y).place) one)
    | inr ne ↦ ap (λ y. (thread_in y j).place) space_is
        ∙ ap (λ (y : Thread). y.place) (thread-there (space_at r.state set.space) t j (next (thread_in (space_at r.state set.space) t)) ne)
  ]

  pub ran : (thread_at r.state set.space t).place ≡ place.Running p
  ran = runs_there set e u cs w r p a life seen t i

  pub io-runner : runner_on q.state p ≡ runner_of set.space (Some t)
  io-runner = runner-is q.state p set.space (Some t)
      (λ z j at. elim (cases_eq z.0 set.space.0) [
        | inl same ↦
            let one : z ≡ set.space = ap (λ y. record { 0 = y }) same in
            let at_s : (thread_at r.state set.space j).place ≡ place.Running p = sym (place_same j)
            ∙ subst (λ y. (thread_at q.state y j).place ≡ place.Running p) one at in
            (one, ap Some (runs-alone set e u cs i.stands set.space r i.holds t j p ran at_s))
        | inr ne ↦ absurd (
            let there : (thread_at r.state z j).place ≡ place.Running p =
            sym (ap (λ y. (thread_in y j).place) (own-elsewhere w p r.state set.space z (records.Ins set.space t (block_at u.shared.threads t.0).pc) refl ne))
            ∙ at in
            ne (ap (λ (y : SpaceNo). y.0) (same_Some z set.space (sym (i.moment.owned p z j there) ∙ i.on.owner))))
      ])
      (λ j at. place_same j ∙ ap (λ y. (thread_at r.state set.space y).place) (sym (same_Some t j at)) ∙ ran)

  pub io-length : length_behind w q set.space (Some t) q.last ≡ Some m
  io-length =
      ap (λ b. if b && t.0 == t.0 then length_in (law_instr w q.state set.space t (block_at u.shared.threads t.0).pc) else None)
      (eq-eqb set.space.0 set.space.0 refl)
      ∙ ap (λ b. if b then length_in (law_instr w q.state set.space t (block_at u.shared.threads t.0).pc) else None) (eq-eqb t.0 t.0 refl)
      ∙ ap length_in
      (ap (λ k. instr_at (slice_index_or (space_def w set.space).programs k []) (block_at u.shared.threads t.0).pc) (ap (λ (y : Thread). y.program) own_thread)
      ∙ instr_is set e u cs w r p a life seen t i ∙ is)

  pub step_is : stepped u seen
      (record { state = User t; sections = []; work = None }) ≡ record {
        user = with_io;
        ctx = record { state = User t; sections = []; work = None };
        says = records.Ins set.space t (block_at u.shared.threads t.0).pc ∷ [];
        answer = asked.Block m None;
      }
  step_is =
      ap
      (λ k. let o = outcome_of u.fetch seen.pages u.shared None t (block_at u.shared.threads t.0) k in
      used_by (with_shared u o.shared) seen (record { state = User t; sections = []; work = o.work }) t o.answer
      (says_of u.shared.state.space t (block_at u.shared.threads t.0) seen.pages k)) is
      ∙ ap
      (λ y. record {
        user = with_io;
        ctx = record { state = User t; sections = []; work = None };
        says = records.Ins y t (block_at u.shared.threads t.0).pc ∷ [];
        answer = asked.Block m None;
      }) (scene.space set e u cs w r p a life d seen i)

  put_d : put cs a.0 (Some d) ≡ cs
  put_d = ap (put cs a.0) (sym i.on.mine) ∙ put-self cs a.0

  stands_now : IsStanding set seen.event with_io cs
  stands_now =
      subst (IsStanding set seen.event with_io) put_d
      (subst (λ (y : Stepped Package Context). IsStanding set seen.event y.user (put cs a.0 (Some y.ctx))) step_is
      (scene.steps set e u cs w r p a life d seen i).value)

  pub io-steps : AreSteps w seen.event p (event_begun_at w seen.event p r) (records.Ins set.space t (block_at u.shared.threads t.0).pc ∷ [])
  io-steps = (
    record {
      owned = i.on.owner;
      runs = ran;
      pc = (thread_fits set e u cs w r p a life seen t i).pc;
      within = let at = (i.stands.parts.at t.0 (t_made set e u cs w r p a life seen t i)).pc in
          let long : program_len w r.state set.space t ≡ _ =
          ap (λ k. length (slice_index_or (space_def w set.space).programs k [])) (thread_fits set e u cs w r p a life seen t i).program
          ∙ ap (λ (y : SpaceView). length (slice_index_or y.programs (block_at u.shared.threads t.0).program []))
          (scene.def set e u cs w r p a life d seen i) in
          omega arith;
      page = subst (IsTouched (event_begun_at w seen.event p r) set.space) (sym (instr_is set e u cs w r p a life seen t i ∙ is)) tt;
    },
    tt,
  )

  pub io-needs : (io : IoNo)
      → Needs w p (after_record w seen.event p (event_begun_at w seen.event p r) (records.Ins set.space t (block_at u.shared.threads t.0).pc))
      (records.Block set.space (Some t) a io)
  io-needs io = record { owned = i.on.owner; runs = io-runner; cause = inl (ap is_some io-length) }

  pub io-blocked : (io : IoNo)
      → IsBlocked set cs w r a life (record { state = User t; sections = []; work = None }) with_io
      (after_record w seen.event p q (records.Block set.space (Some t) a io)) (records.Ins set.space t (block_at u.shared.threads t.0).pc)
  io-blocked io =
      let now : Life = held_with (Some t) life in
      let end = after_record w seen.event p q (records.Block set.space (Some t) a io) in
      let holds : Holds set.space end with_io cs = io-holds set e u cs w r p a life seen t i m is io in
      let lives_are : end.lives ≡ put r.lives a.0 (Some now) =
      ap (with_life (held_with (Some t)) (Some a)) (lives_1 set e u cs w r p a life seen t i m is io)
      ∙ ap (λ o. put r.lives a.0 (option_map (held_with (Some t)) o)) i.on.is in
      let there : life_of end a ≡ Some now = ap (λ (f : ℕ → Option Life). f a.0) lives_are ∙ put-same r.lives a.0 (Some now) in
      let stays_so : is_gone (stage_of end set.space a now) ≡ false =
      block-stays set e u cs i.stands set.space (event_begun_at w seen.event p r)
      (k0 set e u cs w r p a life seen t i m is io) a d i.on.mine w seen.event p life i.on.runs i.on.is i.on.space
      (scene.known set e u cs w r p a life d seen i) (scene.heard set e u cs w r p a life d seen i) (scene.procs set e u cs w r p a life d seen i) io in
      record {
        holds = holds;
        lives = lives_are;
        stage =
            blocks.stage_a set e u cs i.stands set.space (event_begun_at w seen.event p r)
            (k0 set e u cs w r p a life seen t i m is io) a d i.on.mine w seen.event p life i.on.runs i.on.is i.on.space
            (scene.known set e u cs w r p a life d seen i) (scene.heard set e u cs w r p a life d seen i) (scene.procs set e u cs w r p a life d seen i) io;
        others =
            λ y l ne. blocks.stage_x set e u cs i.stands set.space (event_begun_at w seen.event p r)
            (k0 set e u cs w r p a life seen t i m is io) a d i.on.mine w seen.event p life i.on.runs i.on.is i.on.space
            (scene.known set e u cs w r p a life d seen i) (scene.heard set e u cs w r p a life d seen i)
            (scene.procs set e u cs w r p a life d seen i) io y l.proc ne;
        busy = refl;
        marks = λ ev last spaces.
            let placed_so : (thread_at last.state set.space t).place ≡ place.Blocked =
            ap (λ ys. (thread_in (slice_index_or ys set.space.0 no_threads) t).place) spaces
            ∙ ap (λ (y : Thread). y.place) (own_is set e u cs w r p a life seen t i m is io) in
            record {
              inside = ap (λ y. is_inside w r ev last (not (is_running_or_blocked y)) now) placed_so
                  ∙ inside-at w r ev end last now spaces
                  ∙ has-left set seen.event with_io cs stands_now set.space end holds a (User t) [] None i.on.mine now there stays_so refl refl;
              back = and_right life.cont false refl;
              scans = refl;
              left = refl;
              lone = refl;
            };
      }
