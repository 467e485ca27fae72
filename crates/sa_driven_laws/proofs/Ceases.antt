-- A running life is stopped, or blocks; a blocked one comes back.
use Rattle.std.proofs.Common.{◌≡◌, ◌≢◌, ℕ, ◌+◌, ◌<◌, true, false, ◌||◌, ◌&&◌, [], ◌∷◌, ◌++◌, length, Option, Some, None, option_map, refl, sym, ap, ◌∙◌, subst, arith}
use Rattle.std.specs.List.{list_any}
use Rattle.std.proofs.Math.Bool.{or-false}
use Rattle.std.proofs.lemmas.Bool.{eq-eqb, ne_eqb}
use Rattle.std.proofs.lemmas.List.{get_or-set_same}
use Rattle.std.proofs.lemmas.Option.{same_Some}
use Rattle.sa_base.specs.declared.number.ActNo.{ActNo}
use Rattle.sa_base.specs.declared.number.IoNo.{IoNo}
use Rattle.sa_base.specs.declared.number.ProcNo.{ProcNo}
use Rattle.sa_base.specs.declared.number.SpaceNo.{SpaceNo}
use Rattle.sa_base.specs.declared.number.ThreadNo.{ThreadNo}
use Rattle.sa_base.specs.declared.record.Note.TheVariants.{Preempted, Blocked, Unblocked}
use Rattle.sa_base.specs.declared.record.Record.TheVariants.{Stop, Unblock, Block as BlockRecord}
use Rattle.sa_lemmas.proofs.FunctionUpdates.{put-same, put-other}
use Rattle.sa_lemmas.specs.Function.{put}
use Rattle.sa_spaces.specs.Workload.{WorkloadView}
use Rattle.sa_fast.proofs.WorkSteps.{one_other}
use Rattle.sa_fast.specs.Rest.{one_of, one_where, place_at}
use Rattle.sa_fast.specs.Threads.{is_loaded, load_of as loaded}
use Rattle.sa_fast.specs.declared.shared.Shared.{Shared}
use Rattle.sa_fast.specs.declared.threads.Block.{Block}
use Rattle.sa_fast.specs.declared.threads.KeptPlace.TheVariants as fast
use Rattle.sa_abstract.specs.Calls.{Contexts}
use Rattle.sa_abstract.specs.Setting.{Setting}
use Rattle.sa_package_model.specs.Rules.{placed}
use Rattle.sa_driven_model.specs.declared.context.DrivenContext.{DrivenContext}
use Rattle.sa_driven_model.specs.declared.space.DrivenSpace.{DrivenSpace}
use Rattle.sa_driven_model.specs.Stands.{IsStanding}
use Rattle.sa_driven_model.specs.Threads.{has}
use Rattle.sa_driven_model.proofs.Rules.{own_inside}
use Rattle.sa_laws.specs.Life.{Life, with_hand, held_with}
use Rattle.sa_laws.specs.Readings.{Readings, running_of, life_of, untold_of, stopped_thread, untold_thread}
use Rattle.sa_laws.specs.Record.{after_record, stopped_with, one_thread, same_note}
use Rattle.sa_laws.specs.State.{Thread, space_at, thread_in, placed_if, put_thread}
use Rattle.sa_laws.specs.Step.{StandsIn}
use Rattle.sa_laws.specs.declared.place.Place.TheVariants as place
use Rattle.sa_fast_laws.proofs.notices.OwnThread.{IsPlaced, own-placed, own-fits, counted, counted-zero}
use Rattle.sa_fast_laws.proofs.notices.Untold.{IsNoted, runs-only, live_here, noted-stage}
use Rattle.sa_fast_laws.proofs.relation.Places.{space-here, block-here, block-there, loaded-placed, fits-placed}
use Rattle.sa_fast_laws.specs.FastFits.{SitsIn, FitsShared}
use Rattle.sa_fast_laws.specs.Stage.{Stage, Runs, InBlock, Stopped, Returned, stage_by, stage_of, is_act, is_gone, is_running, place_of, kept_of}
use Rattle.sa_driven_laws.specs.Life.{is_number, in_hand, is_own, HasLife}
use Rattle.sa_driven_laws.specs.DrivenFits.{Holds}
use Rattle.sa_driven_laws.proofs.Changed.{life-here, IsChanged}
use Rattle.sa_driven_laws.proofs.Inside.{hand-append}
use Rattle.sa_driven_laws.proofs.Runners.{carried-made}
use Rattle.sa_driven_laws.proofs.Untold.{ceased-none, ceased-acts, ceased-ran, untold}

pub own-is : (o : Option ThreadNo) (n : ℕ) → in_hand (one_thread o) n ≡ is_own o n
own-is None n = refl
own-is (Some t) n = or-false (is_number n t)

-- a thread that is none of these is another one
pub none-of : (o : Option ThreadNo) (t : ThreadNo) → ((n : ThreadNo) → o ≡ Some n → t.0 ≢ n.0) → one_of o t.0 ≡ 0
none-of None t other = refl
none-of (Some n) t other = one_other n.0 t.0 (λ e. other n refl (sym e))

module _ (set : Setting) (e : ℕ) (u : DrivenSpace) (cs : Contexts DrivenContext) (h : IsStanding set e u cs) (s : SpaceNo) (r : Readings)
    (k : Holds s r u.base.shared cs) (a : ActNo) (c : DrivenContext) (is : cs a.0 ≡ Some c) (w : WorkloadView) (number : ℕ) (p : ProcNo) (life : Life)
    (there : life_of r a ≡ Some life) (of : life.space ≡ s) (known : s.0 < length r.state.spaces) (heard : s.0 < length r.untold) where
  l : HasLife s u.base.shared (space_at r.state s) (stage_of r s a life) c life
  l = life-here s r u.base.shared cs k a c life is there

  made : (n : ThreadNo) → c.thread ≡ Some n → n.0 < u.base.shared.state.lists.made
  made n at = carried-made set e u cs h a.0 c n is at

  in-space : (n : ThreadNo) → c.thread ≡ Some n → n.0 < length (space_at r.state s).threads
  in-space n at = let below = made n at in let all = k.space.made in omega (arith, below, all)

  -- the own thread came into the hand, which is gone now
  gone-hand : (stage : Stage) → is_gone stage ≡ true → is_gone (stage_of r s a life) ≡ false → (n : ℕ)
      → in_hand (life.hand ++ one_thread c.thread) n ≡ (has c.hand n || (is_gone stage && is_own c.thread n))
  gone-hand stage gone stays n =
      hand-append life.hand (one_thread c.thread) n ∙ ap (λ b. b || in_hand (one_thread c.thread) n) (l.hand n)
      ∙ ap (λ b. (has c.hand n || (b && is_own c.thread n)) || in_hand (one_thread c.thread) n) stays
      ∙ ap (λ b. b || in_hand (one_thread c.thread) n) (or-false (has c.hand n)) ∙ ap (λ b. has c.hand n || b) (own-is c.thread n)
      ∙ sym (ap (λ b. has c.hand n || (b && is_own c.thread n)) gone)

  -- A STOP
  module _ (runs : running_of r p ≡ Some a) (procs : p.0 < length r.running) where
    proc : life.proc ≡ p
    proc = (k.runs p a life runs there of).1

    stage : stage_of r s a life ≡ Runs
    stage = (k.runs p a life runs there of).2

    abbrev pub stopped_life : Life
    stopped_life = stopped_with c.thread life

    abbrev pub stopped_at : Readings
    stopped_at = after_record w number p r (Stop s c.thread a)

    stop-placed : IsPlaced r.state s (place.Running life.proc) place.Carried c.thread
    stop-placed = own-placed r.state s (place.Running life.proc) place.Carried c.thread known in-space
        (λ n at. l.place n at ∙ ap (λ g. place_of g life.proc) stage)

    stop-noted : IsNoted s r stopped_at a stopped_life (Preempted a)
    stop-noted = record {
      lives = ap (λ o. put r.lives a.0 (option_map (stopped_with c.thread) o)) there;
      untold = get_or-set_same r.untold s.0 (untold_of r s ++ Preempted a ∷ []) [] heard;
      none = runs-only _ _ _ stage;
      apart = λ x ne. (ne_eqb x.0 a.0 ne, refl);
    }

    pub stop-stage : stage_of stopped_at s a stopped_life ≡ Stopped
    stop-stage = noted-stage s r stopped_at a stopped_life (Preempted a) stop-noted life.proc
        ∙ ap (λ b. stage_by b false (is_act a (running_of stopped_at life.proc))) (eq-eqb a.0 a.0 refl)

    pub stop-changed : IsChanged s r stopped_at u.base.shared u.base.shared cs cs a stopped_life c
    stop-changed = untold set e u cs cs h s r k a c c is refl stopped_at u.base.shared stopped_life (Preempted a) (record {
      noted = stop-noted;
      here = is;
      rest = λ x ne. refl;
      acts = ceased-acts s r stopped_at u.base.shared cs k p a life runs there of refl procs;
      ran = ceased-ran s r stopped_at u.base.shared cs k p a life runs there of refl procs;
      places = λ n less other. (ap (λ (x : Thread). x.place) (stop-placed.others n (none-of c.thread n other)), refl);
      space = own-fits u.base.shared r.state s place.Carried c.thread known made
          (λ n at. subst (λ x. SitsIn x place.Carried) (sym (l.kept n at ∙ ap kept_of stage)) tt) k.space;
      active =
          let moves = stop-placed.active in let none = counted-zero c.thread in
          let told : untold_thread stopped_at (Preempted a) ≡ counted c.thread 1 =
          ap stopped_thread (live_here s r stopped_at a stopped_life (Preempted a) stop-noted) in omega (arith, moves, none, told);
      mine = record {
        space = l.space;
        locks = l.locks;
        cont = l.cont;
        hand = gone-hand (stage_of stopped_at s a stopped_life) (ap is_gone stop-stage) (ap is_gone stage);
        place = λ n at. stop-placed.now n at ∙ sym (ap (λ g. place_of g life.proc) stop-stage);
        kept = λ n at. l.kept n at ∙ ap kept_of stage ∙ sym (ap kept_of stop-stage);
        named = λ no. refl;
      };
    })

    -- A BLOCK, by a value whose thread is Blocked
    module _ (io : IoNo) where
      abbrev pub blocked_life : Life
      blocked_life = held_with c.thread life

      abbrev pub blocked_at : Readings
      blocked_at = after_record w number p r (BlockRecord s c.thread a io)

      abbrev pub blocked_value : Shared
      blocked_value = placed u.base.shared c.thread fast.Blocked

      block-placed : IsPlaced r.state s (place.Running life.proc) place.Blocked c.thread
      block-placed = own-placed r.state s (place.Running life.proc) place.Blocked c.thread known in-space
          (λ n at. l.place n at ∙ ap (λ g. place_of g life.proc) stage)

      record IsKept (o : Option ThreadNo) : Type 0 where
        pub here : (n : ThreadNo) → o ≡ Some n → place_at (placed u.base.shared o fast.Blocked) n.0 ≡ fast.Blocked
        pub others : (n : ThreadNo) → ((m : ThreadNo) → o ≡ Some m → n.0 ≢ m.0) → place_at (placed u.base.shared o fast.Blocked) n.0 ≡ place_at u.base.shared n.0
        pub space : FitsShared (placed u.base.shared o fast.Blocked) (space_at (placed_if r.state s o place.Blocked) s)
        pub load : loaded (placed u.base.shared o fast.Blocked).threads + counted o 1 ≡ loaded u.base.shared.threads

      kept_by : (o : Option ThreadNo) → c.thread ≡ o → IsKept o
      kept_by None at = record { here = λ n e. absurd cc; others = λ n other. refl; space = k.space; load = omega arith }
      kept_by (Some m) at =
          let y = space_at r.state s in
          let below : m.0 < length u.base.shared.threads = own_inside set e u cs h a.0 c is m at in
          record {
            here = λ n e. ap (λ (j : ThreadNo). place_at (placed u.base.shared (Some m) fast.Blocked) j.0) (sym (same_Some m n e))
                ∙ ap (λ (x : Block). x.place) (block-here u.base.shared m fast.Blocked below);
            others = λ n other. ap (λ (x : Block). x.place) (block-there u.base.shared m fast.Blocked n.0 (other m refl));
            space = subst (FitsShared (placed u.base.shared (Some m) fast.Blocked)) (sym (space-here r.state s (put_thread place.Blocked y m) known))
                (fits-placed u.base.shared y m fast.Blocked place.Blocked (made m at) below tt k.space);
            load =
                let loads = loaded-placed u.base.shared m fast.Blocked below in
                let one : one_where (is_loaded (place_at u.base.shared m.0)) ≡ 1 = ap (λ x. one_where (is_loaded x)) (l.kept m at ∙ ap kept_of stage) in
                omega (arith, loads, one);
          }

      kept_now : IsKept c.thread
      kept_now = kept_by c.thread refl

      block-noted : IsNoted s r blocked_at a blocked_life (Blocked a)
      block-noted = record {
        lives = ap (λ o. put r.lives a.0 (option_map (held_with c.thread) o)) there;
        untold = get_or-set_same r.untold s.0 (untold_of r s ++ Blocked a ∷ []) [] heard;
        none = runs-only _ _ _ stage;
        apart = λ x ne. (refl, refl);
      }

      pub block-stage : stage_of blocked_at s a blocked_life ≡ InBlock
      block-stage = noted-stage s r blocked_at a blocked_life (Blocked a) block-noted life.proc
          ∙ ap (λ y. stage_by false false (is_act a (running_of blocked_at y))) proc
          ∙ ap (λ o. stage_by false false (is_act a o)) (ceased-none s r blocked_at u.base.shared cs k p a life runs there of refl procs)

      pub block-changed : IsChanged s r blocked_at u.base.shared blocked_value cs (put cs a.0 (Some c)) a blocked_life c
      block-changed = untold set e u cs (put cs a.0 (Some c)) h s r k a c c is refl blocked_at blocked_value blocked_life (Blocked a) (record {
        noted = block-noted;
        here = put-same cs a.0 (Some c);
        rest = λ x ne. put-other cs a.0 x (Some c) ne;
        acts = ceased-acts s r blocked_at u.base.shared cs k p a life runs there of refl procs;
        ran = ceased-ran s r blocked_at u.base.shared cs k p a life runs there of refl procs;
        places = λ n less other. (ap (λ (x : Thread). x.place) (block-placed.others n (none-of c.thread n other)), kept_now.others n other);
        space = kept_now.space;
        active = let moves = block-placed.active in let none = counted-zero c.thread in let loads = kept_now.load in omega (arith, moves, none, loads);
        mine = record {
          space = l.space;
          locks = l.locks;
          cont = l.cont;
          hand = λ n. l.hand n ∙ ap (λ g. has c.hand n || (is_gone g && is_own c.thread n)) stage
              ∙ sym (ap (λ g. has c.hand n || (is_gone g && is_own c.thread n)) block-stage);
          place = λ n at. block-placed.now n at ∙ sym (ap (λ g. place_of g life.proc) block-stage);
          kept = λ n at. kept_now.here n at ∙ sym (ap kept_of block-stage);
          named = λ no. refl;
        };
      })

  -- A RETURN, of a life that runs nowhere and of which no notice waits
  module _ (nowhere : (y : ProcNo) → running_of r y ≢ Some a) (no_stop : list_any (same_note (Preempted a)) (untold_of r s) ≡ false)
      (no_back : list_any (same_note (Unblocked a)) (untold_of r s) ≡ false) where
    abbrev pub returned_life : Life
    returned_life = with_hand (one_thread c.thread) life

    abbrev pub returned_at : Readings
    returned_at = after_record w number p r (Unblock s c.thread a)

    acts_none : (o : Option ActNo) → o ≢ Some a → is_act a o ≡ false
    acts_none None ne = refl
    acts_none (Some b) ne = ne_eqb b.0 a.0 (λ e. ne (ap (λ j. Some (record { 0 = j })) e))

    pub back-stage : stage_of r s a life ≡ InBlock
    back-stage = ap (λ x. stage_by x (list_any (same_note (Unblocked a)) (untold_of r s)) (is_act a (running_of r life.proc))) no_stop
        ∙ ap (λ x. stage_by false x (is_act a (running_of r life.proc))) no_back
        ∙ ap (stage_by false false) (acts_none (running_of r life.proc) (nowhere life.proc))

    pub back-named : life.thread ≡ c.thread
    back-named = l.named (ap is_running back-stage)

    stands : (n : ThreadNo) → c.thread ≡ Some n → (thread_in (space_at r.state s) n).place ≡ place.Blocked
    stands n at = l.place n at ∙ ap (λ g. place_of g life.proc) back-stage

    pub back-stands : StandsIn place.Blocked r.state s c.thread
    back-stands = there_in c.thread stands where
      there_in : (o : Option ThreadNo) → ((n : ThreadNo) → o ≡ Some n → (thread_in (space_at r.state s) n).place ≡ place.Blocked)
          → StandsIn place.Blocked r.state s o
      there_in None at = tt
      there_in (Some n) at = at n refl

    back-placed : IsPlaced r.state s place.Blocked place.Carried c.thread
    back-placed = own-placed r.state s place.Blocked place.Carried c.thread known in-space stands

    back-noted : IsNoted s r returned_at a returned_life (Unblocked a)
    back-noted = record {
      lives = ap (λ o. put r.lives a.0 (option_map (with_hand (one_thread c.thread)) o)) there;
      untold = get_or-set_same r.untold s.0 (untold_of r s ++ Unblocked a ∷ []) [] heard;
      none = (no_stop, no_back);
      apart = λ x ne. (refl, ne_eqb x.0 a.0 ne);
    }

    pub returned-stage : stage_of returned_at s a returned_life ≡ Returned
    returned-stage = noted-stage s r returned_at a returned_life (Unblocked a) back-noted life.proc
        ∙ ap (λ b. stage_by false b (is_act a (running_of returned_at life.proc))) (eq-eqb a.0 a.0 refl)

    pub back-changed : IsChanged s r returned_at u.base.shared u.base.shared cs cs a returned_life c
    back-changed = untold set e u cs cs h s r k a c c is refl returned_at u.base.shared returned_life (Unblocked a) (record {
      noted = back-noted;
      here = is;
      rest = λ x ne. refl;
      acts = λ x y ne. refl;
      ran = λ x y at. (at, λ e. nowhere y (at ∙ ap (λ j. Some (record { 0 = j })) e));
      places = λ n less other. (ap (λ (x : Thread). x.place) (back-placed.others n (none-of c.thread n other)), refl);
      space = own-fits u.base.shared r.state s place.Carried c.thread known made
          (λ n at. subst (λ x. SitsIn x place.Carried) (sym (l.kept n at ∙ ap kept_of back-stage)) tt) k.space;
      active = let moves = back-placed.active in let none = counted-zero c.thread in omega (arith, moves, none);
      mine = record {
        space = l.space;
        locks = l.locks;
        cont = l.cont;
        hand = gone-hand (stage_of returned_at s a returned_life) (ap is_gone returned-stage) (ap is_gone back-stage);
        place = λ n at. back-placed.now n at ∙ sym (ap (λ g. place_of g life.proc) returned-stage);
        kept = λ n at. l.kept n at ∙ ap kept_of back-stage ∙ sym (ap kept_of returned-stage);
        named = λ no. back-named;
      };
    })
