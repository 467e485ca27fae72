-- A turn that does an instruction.
use Rattle.std.proofs.Common.{◌≡◌, ℕ, ◌+◌, ◌^◌, ◌<◌, ◌≤◌, Bool, true, false, cond, eqb, ◌&&◌, [], ◌∷◌, length, get_or, set, Option, Some, None, inl, inr, refl, sym, ap, subst, ◌∙◌, arith}
use Rattle.std.specs.Prelude.{is_some}
use Rattle.std.proofs.lemmas.Bool.{eq-eqb, not-true, not-false}
use Rattle.std.proofs.lemmas.List.{get_or-set_same}
use Rattle.std.proofs.lemmas.List.Elements.{All-get_or}
use Rattle.sa_base.specs.declared.number.ProcNo.{ProcNo}
use Rattle.sa_base.specs.declared.number.SpaceNo.{SpaceNo}
use Rattle.sa_base.specs.declared.number.ThreadNo.{ThreadNo}
use Rattle.sa_base.specs.declared.number.ActNo.{ActNo}
use Rattle.sa_base.specs.declared.limits.TheConstants.{MAX_PROCESSORS}
use Rattle.sa_base.specs.declared.record.Record.TheVariants as rec
use Rattle.sa_instr.specs.declared.instr.Instr.{Instr}
use Rattle.sa_instr.specs.declared.instr.Instr.TheVariants.{Out, Signal, Io as IoOf, Touch}
use Rattle.sa_instr.specs.declared.instr.Reg.{Reg}
use Rattle.sa_instr.specs.Local.{instr_at}
use Rattle.sa_instr.specs.Regs.{reg_value}
use Rattle.sa_spaces.specs.Space.{IsSpace}
use Rattle.sa_spaces.specs.Workload.{WorkloadView, IsWorkload}
use Rattle.sa_sync.specs.Sync.{Sync, semaphore_at}
use Rattle.sa_devices.specs.Ios.{Io}
use Rattle.sa_laws.specs.declared.place.Place.TheVariants as places
use Rattle.sa_laws.specs.State.{State, Thread, at_start, thread_in, thread_at, next_instr, instr_of, space_def, owner_at, no_space}
use Rattle.sa_laws.specs.Effect.{Effect, next, effect_of}
use Rattle.sa_laws.specs.Machine.{next_effect}
use Rattle.sa_laws.specs.Life.{with_hand, held_with}
use Rattle.sa_laws.specs.Readings.{Readings, is_resident}
use Rattle.sa_laws.specs.Record.{with_life, is_kind_of, blocking, blocking_for, length_behind, length_in, after_record}
use Rattle.sa_laws.specs.Step.{CanIns, IsTouched, IsMissed, IsValueOf, IsRunner}
use Rattle.sa_replay.specs.Running.{is_running, HasCount, IsAt, CanRun}
use Rattle.sa_replay.specs.Space.{CanDo}
use Rattle.sa_replay.proofs.ShapeLemmas.{can_do}
use Rattle.sa_replay.specs.Spaces.{space_in, with_space_in, place_in}
use Rattle.sa_replay.specs.Index.{runner_at}
use Rattle.sa_replay.proofs.IndexLemmas.{runner}
use Rattle.sa_virtual.specs.Virtual.{Virtuals, space_of, placed_on}
use Rattle.sa_virtual.specs.Turn.{Turned, ran, misses}
use Rattle.sa_virtual.specs.Holding.{Parts, parts_of, Holds, Stands, IsOwn, StandWithin, holds, holds_for, one_if, one_where}
use Rattle.sa_virtual.specs.Turning.{Good, Met, HasRoom}
use Rattle.sa_virtual.proofs.Kept.{each_set}
use Rattle.sa_virtual.proofs.Room.{put_event, put_below, ins_below}
use Rattle.sa_virtual.proofs.Within.{AllAt, within_of, named, next_small}
use Rattle.sa_virtual.proofs.Ran as run
use Rattle.sa_virtual.proofs.Left as left
use Rattle.sa_virtual.proofs.MoreTurns.{quiet_set}

-- the page of a `touch` is resident, or is missing
touched : (r : Readings) (s : SpaceNo) (i : Instr) → misses r s i ≡ false → IsTouched r s i
touched r s (Touch page) is = not-false (is_resident r s page) is
touched r s i is = tt

missed : (r : Readings) (s : SpaceNo) (i : Instr) → misses r s i ≡ true → IsMissed r s i
missed r s (Touch page) is = not-true (is_resident r s page) is
missed r s i is = cc

-- there is room in the count
has_count : (sync : Sync) (i : Instr) → ((k : ℕ) → (semaphore_at sync k).count + 1 < 2 ^ 32) → HasCount sync i
has_count sync (Signal k) room = room k
has_count sync i room = tt

-- the I/O of a block is of its virtual processor
module _ (w : WorkloadView) (r : Readings) (t : Option ThreadNo) (a : ActNo) where
  kind_once : (o : Option ℕ) (b : ℕ) → one_where (is_kind_of (record { 0 = b }) (blocking_for w r (space_of a) t a o).kind) ≡ one_if a.0 b
  kind_once None b = refl
  kind_once (Some n) b = refl

  kind_holds : (o : Option ℕ) (f : ℕ → Option ThreadNo) (q u : ℕ) → holds_for f q u (blocking_for w r (space_of a) t a o).kind ≡ holds f q u a
  kind_holds None f q u = refl
  kind_holds (Some n) f q u = refl

  kind_own : (o : Option ℕ) → IsOwn (blocking_for w r (space_of a) t a o).kind
  kind_own None = refl
  kind_own (Some n) = refl

module _ (w : WorkloadView) (valid : IsWorkload w) (e : ℕ) (p : ProcNo) (v : Virtuals) (good : Good w v) (a : ActNo) (at : placed_on v p ≡ Some a)
    (t : ThreadNo) (runs : runner_at good.stands.runners p ≡ Some (runner (space_of a) t)) (room : HasRoom v.base.state.spaces) where
  abbrev h : Holds w (parts_of v) good.stands.runners
  h = good.stands.holds

  abbrev s : SpaceNo
  s = space_of a

  abbrev r : Readings
  r = v.base

  abbrev thread : Thread
  thread = thread_at r.state s t

  abbrev i : Instr
  i = next_instr w r.state s t

  abbrev few : w.processors ≤ MAX_PROCESSORS
  few = valid.few_processors

  here : place_in r.state.spaces s t ≡ places.Running p
  here = run.place w (parts_of v) good.stands.runners h p a at few t runs

  pub inside : s.0 < length r.state.spaces
  inside = run.inside w (parts_of v) good.stands.runners h p a at few t runs

  pub space : IsSpace (space_def w s)
  space = All-get_or IsSpace w.spaces s.0 no_space (omega (arith, inside, h.replay.as_many)) valid.spaces

  pub stands : IsAt (space_def w s) thread
  stands = run.stands w (parts_of v) good.stands.runners h p a at few t runs

  can_run : CanRun (space_def w s) (space_in r.state.spaces s) t
  can_run = record { runs = ap is_running here; at = stands; declared = h.replay.declared s.0 inside }

  all_at : AllAt (space_def w s) (space_in r.state.spaces s)
  all_at = h.within s.0

  can : CanDo (space_def w s) (space_in r.state.spaces s) t thread i
  can = can_do (space_def w s) (space_in r.state.spaces s) t thread i (run.sound w (parts_of v) good.stands.runners h p a at few t runs) can_run refl refl
      (next_small (space_def w s) space (space_in r.state.spaces s) t thread stands all_at i refl)
      (named (space_def w s) space (space_in r.state.spaces s) t thread stands all_at i refl)
      (has_count (space_in r.state.spaces s).sync i (room s.0))

  abbrev effect' : Effect
  effect' = next_effect w r.state s t

  then : StandWithin w (with_space_in r.state.spaces s effect'.space)
  then = each_set (λ n x. AllAt (space_def w (record { 0 = n })) x) r.state.spaces s effect'.space inside h.within
      (within_of (space_def w s) space (space_in r.state.spaces s) t thread stands all_at i refl)

  abbrev pub goes : Parts
  goes = run.goes w (parts_of v) good.stands.runners h p a at few t runs

  -- where it goes on, or does not
  pub gone : Stands w goes
  gone = go (is_running (place_in goes.state.spaces s t)) refl where
    go : (b : Bool) → is_running (place_in goes.state.spaces s t) ≡ b → Stands w goes
    go true still = record { runners = good.stands.runners; holds = run.on_holds w (parts_of v) good.stands.runners h p a at few t runs can then still }
    go false rests =
        record { runners = set good.stands.runners p.0 None; holds = run.off_holds w (parts_of v) good.stands.runners h p a at few t runs can then rests }

  -- it can run
  pub ins : misses r s i ≡ false → CanIns w p r s t thread.pc
  ins is = record {
    owned = (h.fits p).owned a at;
    runs = here;
    pc = refl;
    within = stands.in_program;
    page = touched r s i is;
  }

  -- 4. A TOUCH OF AN ABSENT PAGE
  abbrev miss_io : Io
  miss_io = let b = blocking w r s (Some t) a in record { number = r.io_count; ends = e + b.length; kind = b.kind }

  pub faults : misses r s i ≡ true → Met w e p r (ran w v p a t thread i true)
  faults is =
      let behind = length_behind w r s (Some t) r.last in
      let of = kind_once w r (Some t) a behind in
      let carries = kind_holds w r (Some t) a behind in
      let own = kind_own w r (Some t) a behind in
      let needs = left.block_needs w (parts_of v) good.stands.runners h p a at t runs miss_io of carries own in
      record {
        steps = (
          record { owned = needs.0; runs = needs.1; cause = inr (inl (missed r s i is)) },
          (left.block_moves_on w (parts_of v) good.stands.runners h p a at t runs miss_io of carries own, tt),
        );
        stands =
            record {
              runners = set good.stands.runners p.0 None;
              holds = left.block_holds w (parts_of v) good.stands.runners h p a at t runs miss_io of carries own;
            };
        quiet = quiet_set r.running p good.quiet;
        some = omega arith;
        counts = λ c below. put_event c r.state s (Some t) places.Blocked below;
      }

  -- 4. AN INSTRUCTION after which it says nothing more
  lives_stay : with_life (with_hand effect'.roused) (get_or r.running p.0 None) r.lives ≡ r.lives
  lives_stay = ap (λ o. with_life (with_hand effect'.roused) o r.lives) (good.quiet p)

  stands_on : Stands w (record goes { lives = with_life (with_hand effect'.roused) (get_or r.running p.0 None) r.lives })
  stands_on = subst (λ lives. Stands w (record goes { lives = lives })) (sym lives_stay) gone

  abbrev plain : Turned
  plain = record { says = rec.Ins s t thread.pc ∷ []; after = record v { work = goes.work } }

  pub plainly : misses r s i ≡ false → Met w e p r plain
  plainly is = record { steps = (ins is, tt); stands = stands_on; quiet = good.quiet; some = omega arith; counts = λ c below. ins_below w c r.state s t below }

  -- 4. AN `out`, which says its value
  module _ (reg : Reg) (is_out : i ≡ Out reg) where
    abbrev new : State
    new = goes.state

    new_thread : thread_at new s t ≡ next thread
    new_thread =
        let made = run.made w (parts_of v) good.stands.runners h p a at few t runs in
        let space' : space_in new.spaces s ≡ effect'.space = get_or-set_same r.state.spaces s.0 effect'.space _ inside in
        ap (λ x. thread_in x t) space' ∙ ap (λ j. thread_in (effect_of (space_in r.state.spaces s) t thread j).space t) is_out
        ∙ get_or-set_same (space_in r.state.spaces s).threads t.0 (next thread) (at_start 0 places.Done) made

    same_instr : instr_of w new s t thread.pc ≡ Out reg
    same_instr = ap (λ (y : Thread). instr_at (get_or (space_def w s).programs y.program []) thread.pc) new_thread ∙ is_out

    value : IsValueOf (thread_at new s t).regs (instr_of w new s t thread.pc) (reg_value thread.regs reg)
    value =
        subst (λ (j : Instr). IsValueOf (thread_at new s t).regs j (reg_value thread.regs reg)) (sym same_instr)
        (sym (ap (λ (y : Thread). reg_value y.regs reg) new_thread))

    pub outs : Met w e p r (record { says = rec.Ins s t thread.pc ∷ rec.Out s t (reg_value thread.regs reg) ∷ []; after = record v { work = goes.work } })
    outs = record {
      steps = (ins (ap (misses r s) is_out), (((h.fits p).owned a at, (refl, refl, value)), tt));
      stands = stands_on;
      quiet = good.quiet;
      some = omega arith;
      counts = λ c below. ins_below w c r.state s t below;
    }

  -- 4. AN `io`, on which it blocks
  module _ (n : ℕ) (is_io : i ≡ IoOf n) where
    abbrev pub mid : Readings
    mid = after_record w e p r (rec.Ins s t thread.pc)

    io_thread : thread_at goes.state s t ≡ next thread
    io_thread =
        let made = run.made w (parts_of v) good.stands.runners h p a at few t runs in
        let space' : space_in goes.state.spaces s ≡ effect'.space = get_or-set_same r.state.spaces s.0 effect'.space _ inside in
        ap (λ x. thread_in x t) space' ∙ ap (λ j. thread_in (effect_of (space_in r.state.spaces s) t thread j).space t) is_io
        ∙ get_or-set_same (space_in r.state.spaces s).threads t.0 (next thread) (at_start 0 places.Done) made

    io_instr : instr_of w goes.state s t thread.pc ≡ IoOf n
    io_instr = ap (λ (y : Thread). instr_at (get_or (space_def w s).programs y.program []) thread.pc) io_thread ∙ is_io

    still : is_running (place_in goes.state.spaces s t) ≡ true
    still = ap (λ (y : Thread). is_running y.place) io_thread ∙ ap is_running here

    went : Holds w goes good.stands.runners
    went = run.on_holds w (parts_of v) good.stands.runners h p a at few t runs can then still

    pub behind_io : length_behind w mid s (Some t) mid.last ≡ Some n
    behind_io =
        ap (λ b. cond (b && eqb t.0 t.0) (length_in (instr_of w goes.state s t thread.pc)) None) (eq-eqb s.0 s.0 refl)
        ∙ ap (λ b. cond b (length_in (instr_of w goes.state s t thread.pc)) None) (eq-eqb t.0 t.0 refl)
        ∙ ap length_in io_instr

    abbrev io_of : Io
    io_of = let b = blocking w mid s (Some t) a in record { number = r.io_count; ends = e + b.length; kind = b.kind }

    abbrev length' : Option ℕ
    length' = length_behind w mid s (Some t) mid.last

    io_needs : (owner_at goes.state p ≡ Some s) × IsRunner goes.state p s (Some t)
    io_needs =
        left.block_needs w goes good.stands.runners went p a at t runs io_of (kind_once w mid (Some t) a length') (kind_holds w mid (Some t) a length')
        (kind_own w mid (Some t) a length')

    pub blocks_on : Met w e p r (record {
      says = rec.Ins s t thread.pc ∷ rec.Block s (Some t) a (record { 0 = r.io_count }) ∷ rec.Move (Some s) None ∷ [];
      after = record v { work = goes.work; placed = set v.placed p.0 None };
    })
    blocks_on = record {
      steps = (
        ins (ap (misses r s) is_io),
        (
          record { owned = io_needs.0; runs = io_needs.1; cause = inl (ap is_some behind_io) },
          (
            left.block_moves_on w goes good.stands.runners went p a at t runs io_of (kind_once w mid (Some t) a length') (kind_holds w mid (Some t) a length')
                (kind_own w mid (Some t) a length'),
            tt,
          ),
        ),
      );
      stands = record {
        runners = set good.stands.runners p.0 None;
        holds =
            subst (λ lives. Holds w (record
            (left.blocks w goes good.stands.runners went p a at t runs io_of (kind_once w mid (Some t) a length') (kind_holds w mid (Some t) a length')
            (kind_own w mid (Some t) a length')) { lives = with_life (held_with (Some t)) (Some a) lives }) (set good.stands.runners p.0 None))
            (sym lives_stay)
            (left.block_holds w goes good.stands.runners went p a at t runs io_of (kind_once w mid (Some t) a length') (kind_holds w mid (Some t) a length')
            (kind_own w mid (Some t) a length'));
      };
      quiet = quiet_set r.running p good.quiet;
      some = omega arith;
      counts = λ c below. put_below (c + 1) goes.state s (Some t) places.Blocked (ins_below w c r.state s t below);
    }
