-- A running life blocks, after what its step did: the package puts its thread to the place Blocked.
use Rattle.std.proofs.Common.{◌≡◌, ◌≢◌, ℕ, ◌+◌, ◌≤◌, ◌<◌, false, ◌||◌, [], ◌∷◌, ◌++◌, length, Option, Some, None, option_map, refl, sym, ap, ◌∙◌, subst, arith}
use Rattle.std.proofs.lemmas.List.{get_or-set_same}
use Rattle.std.proofs.lemmas.Option.{same_Some}
use Rattle.sa_base.specs.declared.number.ActNo.{ActNo}
use Rattle.sa_base.specs.declared.number.IoNo.{IoNo}
use Rattle.sa_base.specs.declared.number.ProcNo.{ProcNo}
use Rattle.sa_base.specs.declared.number.SpaceNo.{SpaceNo}
use Rattle.sa_base.specs.declared.number.ThreadNo.{ThreadNo}
use Rattle.sa_base.specs.declared.record.Note.TheVariants.{Blocked}
use Rattle.sa_base.specs.declared.record.Record.TheVariants.{Block as BlockRecord}
use Rattle.sa_lemmas.specs.Function.{put}
use Rattle.sa_spaces.specs.Workload.{WorkloadView}
use Rattle.sa_fast.proofs.WorkSteps.{one_same}
use Rattle.sa_fast.specs.Rest.{one_of, one_where, place_at}
use Rattle.sa_fast.specs.Threads.{is_loaded, load_of as loaded}
use Rattle.sa_fast.specs.declared.threads.Block.{Block as BlockOf}
use Rattle.sa_fast.specs.declared.threads.KeptPlace.TheVariants as fast
use Rattle.sa_abstract.specs.Calls.{Contexts}
use Rattle.sa_abstract.specs.Setting.{Setting}
use Rattle.sa_package_model.proofs.Holding.{own_made, own_below, thread_once}
use Rattle.sa_package_model.specs.Context.{carried_by}
use Rattle.sa_package_model.specs.Hands.{threads_of}
use Rattle.sa_package_model.specs.Rules.{placed, placed_in}
use Rattle.sa_package_model.specs.Stands.{IsStanding}
use Rattle.sa_package_model.specs.declared.context.Context.{Context}
use Rattle.sa_package_model.specs.declared.package.Package.{Package}
use Rattle.sa_laws.specs.Life.{Life, held_with}
use Rattle.sa_laws.specs.Readings.{Readings, running_of, life_of, untold_of}
use Rattle.sa_laws.specs.Record.{after_record}
use Rattle.sa_laws.specs.State.{Thread, space_at, put_thread, placed_if}
use Rattle.sa_laws.specs.declared.place.Place.TheVariants as place
use Rattle.sa_fast_laws.proofs.relation.Hands.{split}
use Rattle.sa_fast_laws.proofs.relation.OneLife.{carried_has, stopped_beside}
use Rattle.sa_fast_laws.proofs.relation.Places.{space-here, block-here, block-there, loaded-placed, fits-placed}
use Rattle.sa_fast_laws.proofs.relation.ThreadsBeside.{life-here}
use Rattle.sa_fast_laws.specs.FastFits.{FitsShared, Holds}
use Rattle.sa_fast_laws.specs.Life.{stopped_in, carried, count_if, HasLife}
use Rattle.sa_fast_laws.specs.Stage.{stage_by, stage_on, stage_of, is_act, is_gone, place_of, kept_of, Runs, InBlock}
use Rattle.sa_fast_laws.specs.View.{view, in_copy}
use Rattle.sa_fast_laws.proofs.notices.OwnThread.{IsPlaced, own-placed, counted, counted-zero}
use Rattle.sa_fast_laws.proofs.notices.Untold.{IsNoted, IsUntold, runs-only, ceased-none, ceased-acts, ceased-ran, noted-stage, untold-stage, untold-holds}

module _ (set : Setting) (e : ℕ) (u : Package) (cs : Contexts Context) (h : IsStanding set e u cs) (s : SpaceNo) (r : Readings) (k : Holds s r u cs)
    (a : ActNo) (c : Context) (is : cs a.0 ≡ Some c) (w : WorkloadView) (number : ℕ) (p : ProcNo) (life : Life) (runs : running_of r p ≡ Some a)
    (there : life_of r a ≡ Some life) (of : life.space ≡ s)
    (known : s.0 < length r.state.spaces) (heard : s.0 < length r.untold) (procs : p.0 < length r.running) (io : IoNo) where
  abbrev t : Option ThreadNo
  t = carried_by c.state

  abbrev v : Package
  v = placed_in u t fast.Blocked

  abbrev q : Readings
  q = after_record w number p r (BlockRecord s t a io)

  abbrev after : Life
  after = held_with t life

  l : HasLife s u.shared (space_at r.state s) (stage_of r s a life) (view c) life
  l = life-here s r u cs k a c life is there

  proc : life.proc ≡ p
  proc = (k.runs p a life runs there of).1

  stage : stage_of r s a life ≡ Runs
  stage = (k.runs p a life runs there of).2

  carries : (n : ThreadNo) → t ≡ Some n → 1 ≤ threads_of u.shared.works (Some c) n.0
  carries n at = carried_has u.shared.works c n at

  placed_now : IsPlaced r.state s (place.Running life.proc) place.Blocked t
  placed_now = own-placed r.state s (place.Running life.proc) place.Blocked t known
      (λ n at. let made = own_made set e u cs h a.0 c is n.0 (carries n at) in let all = k.space.made in omega arith)
      (λ n at. l.place n at ∙ ap (λ g. place_of g life.proc) stage)

  -- the package puts its thread to the same place
  record IsKept (o : Option ThreadNo) : Type 0 where
    pub here : (n : ThreadNo) → o ≡ Some n → place_at (placed u.shared o fast.Blocked) n.0 ≡ fast.Blocked
    pub others : (n : ThreadNo) → one_of o n.0 ≡ 0 → place_at (placed u.shared o fast.Blocked) n.0 ≡ place_at u.shared n.0
    pub space : FitsShared (placed u.shared o fast.Blocked) (space_at (placed_if r.state s o place.Blocked) s)
    pub load : loaded (placed u.shared o fast.Blocked).threads + counted o 1 ≡ loaded u.shared.threads

  kept_by : (o : Option ThreadNo) → t ≡ o → IsKept o
  kept_by None at = record { here = λ n e. absurd cc; others = λ n none. refl; space = k.space; load = omega arith }
  kept_by (Some m) at =
      let y = space_at r.state s in
      let has = carries m at in
      let below : m.0 < length u.shared.threads = (let less = own_below set e u cs h a.0 c is m.0 has in let all = h.parts.blocks in omega arith) in
      record {
        here = λ n e. ap (λ (j : ThreadNo). place_at (placed u.shared (Some m) fast.Blocked) j.0) (sym (same_Some m n e))
            ∙ ap (λ (x : BlockOf). x.place) (block-here u.shared m fast.Blocked below);
        others = λ n none. ap (λ (x : BlockOf). x.place)
            (block-there u.shared m fast.Blocked n.0 (λ same. absurd (let one = one_same m.0 n.0 (sym same) in omega arith)));
        space = subst (FitsShared (placed u.shared (Some m) fast.Blocked)) (sym (space-here r.state s (put_thread place.Blocked y m) known))
            (fits-placed u.shared y m fast.Blocked place.Blocked (own_made set e u cs h a.0 c is m.0 has) below tt k.space);
        load =
            let loads = loaded-placed u.shared m fast.Blocked below in
            let one : one_where (is_loaded (place_at u.shared m.0)) ≡ 1 = ap (λ x. one_where (is_loaded x)) (l.kept m at ∙ ap kept_of stage) in
            omega arith;
      }

  kept_now : IsKept t
  kept_now = kept_by t refl

  noted : IsNoted s r q a after (Blocked a)
  noted = record {
    lives = ap (λ o. put r.lives a.0 (option_map (held_with t) o)) there;
    untold = get_or-set_same r.untold s.0 (untold_of r s ++ Blocked a ∷ []) [] heard;
    none = runs-only _ _ _ stage;
    apart = λ x ne. (refl, refl);
  }

  pub stage_a : stage_of q s a after ≡ InBlock
  stage_a = noted-stage s r q a after (Blocked a) noted life.proc ∙ ap (λ y. stage_by false false (is_act a (running_of q y))) proc
      ∙ ap (λ o. stage_by false false (is_act a o)) (ceased-none s r q u cs k p a life runs there of refl procs)

  pub block-stays : is_gone (stage_of q s a after) ≡ false
  block-stays = ap is_gone stage_a

  mine_now : HasLife s v.shared (space_at q.state s) (stage_of q s a after) (view c) after
  mine_now = record {
    space = l.space;
    locks = l.locks;
    cont = l.cont;
    hand = record {
      all = l.hand.all;
      own = λ gone n some. absurd (let no_gone : is_gone (stage_of q s a after) ≡ false = ap is_gone stage_a in cc);
      only = λ n some.
          let was = l.hand.only n some in
          let same : count_if (is_gone (stage_of q s a after) || in_copy c.state) (carried (view c) n) ≡ count_if
          (is_gone (stage_of r s a life) || in_copy c.state) (carried (view c) n) =
          ap (λ g. count_if (is_gone g || in_copy c.state) (carried (view c) n)) stage_a
          ∙ sym (ap (λ g. count_if (is_gone g || in_copy c.state) (carried (view c) n)) stage) in omega arith;
    };
    place = λ n at. placed_now.now n at ∙ sym (ap (λ g. place_of g life.proc) stage_a);
    kept = λ n at. kept_now.here n at ∙ sym (ap kept_of stage_a);
    stopped = λ n some. kept_now.others n (apart n.0 some) ∙ l.stopped n some;
    named = λ no_run. refl;
  } where
    apart : (n : ℕ) → 1 ≤ stopped_in c.sections n → one_of t n ≡ 0
    apart n some = let has = stopped_beside u.shared.works c n some in let all = split u.shared.works c n in
        let once = thread_once set e u cs h a.0 c is n in omega arith

  is_untold : IsUntold s r q u v a c after (Blocked a)
  is_untold = record {
    noted = noted;
    acts = ceased-acts s r q u cs k p a life runs there of refl procs;
    ran = ceased-ran s r q u cs k p a life runs there of refl procs;
    works = refl;
    places = λ n none. ap (λ (x : Thread). x.place) (placed_now.others n none);
    kept = kept_now.others;
    space = kept_now.space;
    active = let moves = placed_now.active in let none = counted-zero t in let loads = kept_now.load in omega arith;
    mine = mine_now;
  }

  pub stage_x : (x : ActNo) (y : ProcNo) → x.0 ≢ a.0 → stage_on q s x y ≡ stage_on r s x y
  stage_x = untold-stage set e u cs h s r k a c is q v after (Blocked a) is_untold

  pub block-holds : Holds s q v cs
  block-holds = untold-holds set e u cs h s r k a c is q v after (Blocked a) is_untold
