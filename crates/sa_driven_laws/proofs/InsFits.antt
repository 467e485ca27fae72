-- An instruction of a context's thread: the value and the history fit again, and who is roused joins both hands.
use Rattle.std.proofs.Common.{◌≡◌, ◌≢◌, ℕ, ◌+◌, ◌≤◌, ◌<◌, Bool, true, false, ◌||◌, nat_lt, List, [], ◌∷◌, ◌++◌, map, length, slice_index_or, Option, Some, None, refl, sym, ap, ◌∙◌, subst, inl, inr, arith}
use Rattle.std.proofs.Math.Bool.{or-false, or_assoc}
use Rattle.std.proofs.lemmas.Bool.{cases_eq, eq-eqb, ne_eqb, lt-ltb}
use Rattle.std.specs.Prelude.{◌==◌}
use Rattle.std.proofs.lemmas.List.{length-set, get_or-set_same, get_or-set_other}
use Rattle.sa_base.specs.declared.context.Seen.{Seen}
use Rattle.sa_base.specs.declared.number.ActNo.{ActNo}
use Rattle.sa_base.specs.declared.number.ProcNo.{ProcNo}
use Rattle.sa_base.specs.declared.number.SpaceNo.{SpaceNo}
use Rattle.sa_base.specs.declared.number.ThreadNo.{ThreadNo}
use Rattle.sa_base.specs.declared.record.Record.TheVariants.{Ins}
use Rattle.sa_lemmas.specs.Function.{put}
use Rattle.sa_instr.specs.Local.{instr_at}
use Rattle.sa_instr.specs.declared.instr.Instr.{Instr}
use Rattle.sa_spaces.specs.Space.{SpaceView}
use Rattle.sa_spaces.specs.Workload.{WorkloadView}
use Rattle.sa_links.proofs.Counting.{count_at}
use Rattle.sa_links.specs.Lists.{count_in}
use Rattle.sa_fast.proofs.Moves.{RunStep}
use Rattle.sa_fast.proofs.WorkSteps.{count_one, one_same, one_other}
use Rattle.sa_fast.specs.Instruction.{Outcome, run, instr_of}
use Rattle.sa_fast.specs.Rest.{one_where, is_unmade, place_at}
use Rattle.sa_fast.specs.Threads.{unmade, block_at, with_block, is_loaded, load_of as loaded}
use Rattle.sa_fast.specs.Work.{work_of, with_name}
use Rattle.sa_fast.specs.declared.shared.Shared.{Shared}
use Rattle.sa_fast.specs.declared.threads.Block.{Block}
use Rattle.sa_fast.specs.declared.threads.KeptPlace.{KeptPlace}
use Rattle.sa_fast.specs.declared.threads.KeptPlace.TheVariants as fast
use Rattle.sa_abstract.specs.Calls.{Contexts}
use Rattle.sa_abstract.specs.Setting.{Setting}
use Rattle.sa_driven_model.proofs.InsRule.{step}
use Rattle.sa_driven_model.proofs.Rules.{own_inside}
use Rattle.sa_driven_model.specs.declared.context.DrivenContext.{DrivenContext}
use Rattle.sa_driven_model.specs.declared.space.DrivenSpace.{DrivenSpace}
use Rattle.sa_driven_model.specs.Threads.{has, with_thread, with_all}
use Rattle.sa_laws.specs.Effect.{Effect, effect_of}
use Rattle.sa_laws.specs.Life.{Life, with_hand}
use Rattle.sa_laws.specs.Machine.{next_effect}
use Rattle.sa_laws.specs.Readings.{Readings}
use Rattle.sa_laws.specs.Record.{after_record}
use Rattle.sa_laws.specs.State.{Thread, at_start, space_at, space_def, thread_in, thread_at, is_active, active_threads, next_instr}
use Rattle.sa_laws.specs.declared.place.Place.{Place}
use Rattle.sa_laws.specs.declared.place.Place.TheVariants as place
use Rattle.sa_user_laws.specs.Scene.{event_begun_at}
use Rattle.sa_fast_laws.proofs.instructions.Effects.{FitsEffect, Changes, IsThere, effect-fits, effect-changes}
use Rattle.sa_fast_laws.proofs.instructions.Gains.{gained-all}
use Rattle.sa_fast_laws.proofs.relation.Places.{space-here, active-with, loaded-with, life-changed}
use Rattle.sa_fast_laws.specs.FastFits.{FitsShared, SitsIn}
use Rattle.sa_fast_laws.specs.Life.{number_of}
use Rattle.sa_fast_laws.specs.Stage.{stage_of, place_of, kept_of}
use Rattle.sa_driven_laws.specs.Life.{is_number, in_hand, HasLife}
use Rattle.sa_driven_laws.specs.DrivenFits.{Holds}
use Rattle.sa_driven_laws.proofs.Changed.{life-here}
use Rattle.sa_driven_laws.proofs.Inside.{hand-append}
use Rattle.sa_driven_laws.proofs.Moves as moves
use Rattle.sa_driven_laws.proofs.Replies.{hand-is, stage}
use Rattle.sa_driven_laws.proofs.Runners.{carried-made, kept-made}
use Rattle.sa_driven_laws.proofs.Scenes.{IsScene}
use Rattle.sa_driven_laws.proofs.Scenes as scene

-- HANDS by counts
abbrev pub some_of : ℕ → List ℕ → Bool
some_of n ts = nat_lt 0 (count_in n ts)

some-cons : (n t : ℕ) (ts : List ℕ) → some_of n (t ∷ ts) ≡ ((t == n) || some_of n ts)
some-cons n t ts = elim (cases_eq t n) [
  | inl e ↦ lt-ltb 0 (count_in n (t ∷ ts)) (omega (arith, count_one n t ts, one_same t n e)) ∙ sym (ap (λ b. b || some_of n ts) (eq-eqb t n e))
  | inr ne ↦ ap (nat_lt 0) (count_one n t ts ∙ (let none = one_other t n ne in omega (arith, none))) ∙ sym (ap (λ b. b || some_of n ts) (ne_eqb t n ne))
]

hand-counts : (hand : List ThreadNo) (n : ℕ) → in_hand hand n ≡ some_of n (map number_of hand)
hand-counts [] n = refl
hand-counts (t ∷ ts) n = ap (λ b. is_number n t || b) (hand-counts ts n) ∙ sym (some-cons n t.0 (map number_of ts))

has-all : (ts : List ℕ) (set : List Bool) (n : ℕ) → ((v : ℕ) → 1 ≤ count_in v ts → v < length set) → has (with_all set ts) n ≡ (has set n || some_of n ts)
has-all [] set n below = sym (or-false (has set n))
has-all (t ∷ ts) set n below =
    let inside : t < length set = below t (omega (arith, count_one t t ts, one_same t t refl)) in
    has-all ts (with_thread set t) n (λ v some. let b = below v (omega (arith, some, count_one v t ts)) in let size = length-one set t in omega (arith, b, size))
    ∙ ap (λ b. b || some_of n ts) (one set t n inside) ∙ or_assoc (has set n) (t == n) (some_of n ts)
    ∙ ap (λ b. has set n || b) (sym (some-cons n t ts)) where
      length-one : (xs : List Bool) (k : ℕ) → length (with_thread xs k) ≡ length xs
      length-one xs k = length-set xs k true

      or-yes : (b : Bool) → (b || true) ≡ true
      or-yes true = refl
      or-yes false = refl

      one : (xs : List Bool) (k m : ℕ) → k < length xs → has (with_thread xs k) m ≡ (has xs m || (k == m))
      one xs k m inside = elim (cases_eq m k) [
        | inl e ↦ ap (has (with_thread xs k)) e ∙ get_or-set_same xs k true false inside ∙ sym (ap (λ b. has xs m || b) (eq-eqb k m (sym e)) ∙ or-yes (has xs m))
        | inr ne ↦ get_or-set_other xs k m true false ne ∙ sym (ap (λ b. has xs m || b) (ne_eqb k m (λ e. ne (sym e))) ∙ or-false (has xs m))
      ]

module _ (set : Setting) (e : ℕ) (u : DrivenSpace) (cs : Contexts DrivenContext) (w : WorkloadView) (r : Readings) (p : ProcNo) (a : ActNo) (life : Life)
    (c : DrivenContext) (seen : Seen) (i : IsScene set e u cs w r p a life c seen) (t : ThreadNo) (own : c.thread ≡ Some t) where
  abbrev x : Shared
  x = u.base.shared

  abbrev s : SpaceNo
  s = set.space

  abbrev b : Block
  b = block_at u.base.shared.threads t.0

  abbrev pub j : Instr
  j = instr_of u.base.def (block_at u.base.shared.threads t.0)

  abbrev pub o : Outcome
  o = run u.base.def u.base.fetch seen.pages u.base.shared None t

  abbrev ys : List Thread
  ys = (space_at r.state set.space).threads

  abbrev zp : Place
  zp = (thread_at r.state set.space t).place

  abbrev f : Effect
  f = effect_of (record { threads = ys; sync = u.base.shared.sync }) t (record { program = b.program; pc = b.pc; regs = b.regs; place = zp }) j

  abbrev pub q : Readings
  q = after_record w seen.event p (event_begun_at w seen.event p r) (Ins set.space t (block_at u.base.shared.threads t.0).pc)

  k0 : Holds set.space (event_begun_at w seen.event p r) u.base.shared cs
  k0 = moves.k0 set e u cs w r p a life c seen i

  l : HasLife set.space u.base.shared (space_at r.state set.space) (stage_of (event_begun_at w seen.event p r) set.space a life) c life
  l = life-here set.space (event_begun_at w seen.event p r) u.base.shared cs k0 a c life i.on.mine i.on.is

  pub made : t.0 < u.base.shared.state.lists.made
  made = carried-made set e u cs i.stands a.0 c t i.on.mine own

  pub inside : t.0 < length u.base.shared.threads
  inside = own_inside set e u cs i.stands a.0 c i.on.mine t own

  below : t.0 < length ys
  below = let all = k0.space.made in let less = made in omega (arith, all, less)

  pub kept : (block_at u.base.shared.threads t.0).place ≡ fast.Running
  kept = l.kept t own ∙ ap kept_of (stage set e u cs w r p a life c seen i)

  pub runs_there : (thread_at r.state set.space t).place ≡ place.Running p
  runs_there = l.place t own ∙ ap (λ g. place_of g life.proc) (stage set e u cs w r p a life c seen i) ∙ ap place.Running i.on.proc

  pub fits_now : FitsShared u.base.shared (record { threads = (space_at r.state set.space).threads; sync = u.base.shared.sync })
  fits_now = record { made = k0.space.made; threads = k0.space.threads; sync = refl }

  pub sits : SitsIn (block_at u.base.shared.threads t.0).place (thread_at r.state set.space t).place
  sits = (k0.space.threads t made).place

  thread_is : thread_at r.state s t ≡ record { program = b.program; pc = b.pc; regs = b.regs; place = zp }
  thread_is =
      let same = k0.space.threads t made in let old = thread_at r.state s t in
      ap (λ n. record { program = n; pc = old.pc; regs = old.regs; place = zp }) same.program
      ∙ ap (λ n. record { program = b.program; pc = n; regs = old.regs; place = zp }) same.pc
      ∙ ap (λ xs. record { program = b.program; pc = b.pc; regs = xs; place = zp }) same.regs

  def : space_def w s ≡ u.base.def
  def = scene.def set e u cs w r p a life c seen i

  pub instr_is : next_instr w r.state set.space t ≡ instr_of u.base.def (block_at u.base.shared.threads t.0)
  instr_is =
      ap (λ (z : Thread). instr_at (slice_index_or (space_def w s).programs z.program []) z.pc) thread_is
      ∙ ap (λ (d : SpaceView). instr_at (slice_index_or d.programs b.program []) b.pc) def

  effect_is : next_effect w r.state s t ≡ f
  effect_is =
      ap (λ y. effect_of (record { threads = ys; sync = y }) t (thread_at r.state s t) (next_instr w r.state s t)) k0.space.sync
      ∙ ap (λ z. effect_of (record { threads = ys; sync = x.sync }) t z (next_instr w r.state s t)) thread_is
      ∙ ap (λ k. effect_of (record { threads = ys; sync = x.sync }) t (record { program = b.program; pc = b.pc; regs = b.regs; place = zp }) k) instr_is

  module _ (can : IsThere u.base.shared ys None t b zp fits_now sits made inside seen.pages j) where
    fits : FitsEffect x None o f
    fits = effect-fits x ys None t b zp fits_now sits made inside u.base.fetch seen.pages j i.stands.parts.threads i.stands.parts.blocks can

    unmade_next : is_loaded (block_at x.threads (length ys)).place ≡ false
    unmade_next = unloaded (place_at x (length ys)) (kept-made set e u cs i.stands (length ys) (let all = k0.space.made in omega (arith, all))) where
      unloaded : (z : KeptPlace) → is_unmade z ≡ true → is_loaded z ≡ false
      unloaded fast.Unmade same = refl
      unloaded _ same = absurd cc

    pub changes : Changes u.base.shared (space_at r.state set.space).threads None t (block_at u.base.shared.threads t.0) (thread_at r.state set.space t).place fits_now
        sits made inside o f
    changes = effect-changes x ys None t b zp fits_now sits made inside u.base.fetch seen.pages j i.stands.parts.threads i.stands.parts.blocks unmade_next can

    state_is : space_at q.state s ≡ f.space
    state_is = space-here r.state s (next_effect w r.state s t).space (scene.known set e u cs w r p a life c seen i) ∙ ap (λ (y : Effect). y.space) effect_is

    pub space : FitsShared o.shared (space_at q.state set.space)
    space = subst (FitsShared o.shared) (sym state_is) fits.space

    pub place_here : (thread_in (space_at q.state set.space) t).place ≡ changes.changed.place
    place_here = ap (λ y. (thread_in y t).place) state_is
        ∙ ap (λ (y : Thread). y.place) (changes.threads t made ∙ get_or-set_same ys t.0 changes.changed (at_start 0 place.Done) below)

    pub place_there : (n : ThreadNo) → n.0 ≢ t.0 → n.0 < u.base.shared.state.lists.made
        → (thread_in (space_at q.state set.space) n).place ≡ (thread_in (space_at r.state set.space) n).place
    place_there n ne less = ap (λ y. (thread_in y n).place) state_is
        ∙ ap (λ (y : Thread). y.place) (changes.threads n less ∙ get_or-set_other ys t.0 n.0 changes.changed (at_start 0 place.Done) ne)

    pub kept_here : place_at o.shared t.0 ≡ changes.block.place
    kept_here = ap (λ (y : Block). y.place) (changes.blocks t.0 made ∙ get_or-set_same x.threads t.0 changes.block unmade inside)

    pub kept_there : (n : ThreadNo) → n.0 ≢ t.0 → n.0 < u.base.shared.state.lists.made → place_at o.shared n.0 ≡ place_at u.base.shared n.0
    kept_there n ne less = ap (λ (y : Block). y.place) (changes.blocks n.0 less ∙ get_or-set_other x.threads t.0 n.0 changes.block unmade ne)

    -- the loads
    pub loads : loaded o.shared.threads + 1 ≡ loaded u.base.shared.threads + one_where (is_loaded changes.block.place)
    loads =
        let two = loaded-with x.threads t.0 changes.block inside in
        let three : loaded o.shared.threads ≡ loaded (with_block x.threads t.0 changes.block) = changes.loads in
        let ran_here : one_where (is_loaded b.place) ≡ 1 = ap (λ y. one_where (is_loaded y)) kept in
        omega (arith, two, three, ran_here)

    pub actives : active_threads (space_at q.state set.space) + 1 ≡ active_threads (space_at r.state set.space) + one_where (is_active changes.changed.place)
    actives =
        let active : active_threads (space_at q.state s) ≡ active_threads f.space = ap active_threads state_is in
        let all = changes.actives in
        let one = active-with (record { threads = ys; sync = x.sync }) t changes.changed below in
        let ran_there : one_where (is_active (thread_at r.state s t).place) ≡ 1 = ap (λ y. one_where (is_active y)) runs_there in
        omega (arith, active, all, one, ran_there)

    -- who is roused
    abbrev pub roused : List ThreadNo
    roused = (next_effect w r.state set.space t).roused

    pub lives_now : q.lives ≡ put r.lives a.0 (Some (with_hand roused life))
    lives_now = life-changed (with_hand (next_effect w r.state s t).roused) (event_begun_at w seen.event p r) p a life i.on.runs i.on.is

    pub run_is : RunStep u.base.def u.base.processors e x None t o
    run_is = step set e u cs i.stands a.0 c i.on.mine t own seen.pages

    ws-below : (v : ℕ) → 1 ≤ count_in v (work_of o.shared.works o.work) → v < length c.hand
    ws-below v some = by o.work some where
      by : (y : Option ThreadNo) → 1 ≤ count_in v (work_of o.shared.works y) → v < length c.hand
      by None some = absurd (let nil : count_in v [] ≡ 0 = refl in omega (arith, some, nil))
      by (Some n) some =
          let all = run_is.works.works.below v (let one = count_at v o.shared.works n.0 in omega (arith, some, one)) in
          omega (arith, all, i.stands.hands a.0 c i.on.mine)

    pub hand-now : (n : ℕ) → in_hand (life.hand ++ roused) n ≡ has (with_all c.hand (work_of o.shared.works o.work)) n
    hand-now n =
        hand-append life.hand roused n ∙ ap (λ y. y || in_hand roused n) (hand-is set e u cs w r p a life c seen i n)
        ∙ ap (λ y. has c.hand n || y) (ap (λ (y : Effect). in_hand y.roused n) effect_is ∙ hand-counts f.roused n
        ∙ ap (nat_lt 0) (sym (gained-all x.works (map number_of f.roused) (with_name o.shared.works o.work) run_is.gained fits.works run_is.works n)))
        ∙ sym (has-all (work_of o.shared.works o.work) c.hand n ws-below)
