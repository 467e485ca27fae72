-- One that has made its steps is stopped and the next is placed; and one does an instruction, which may block.
use Rattle.std.proofs.Common.{◌≡◌, ◌≢◌, ℕ, ◌+◌, ◌<◌, ◌≤◌, true, cond, List, [], ◌∷◌, ◌++◌, length, get_or, set, Option, Some, None, inl, inr, refl, sym, ap, subst, ◌∙◌, arith}
use Rattle.std.specs.Option.{option_map}
use Rattle.std.proofs.lemmas.Bool.{cases_eq, cases_lt, eq-eqb}
use Rattle.std.proofs.lemmas.List.{length-set, get_or-set_same, get_or-set_other, get_or_past, set-set}
use Rattle.sa_base.specs.declared.number.ProcNo.{ProcNo}
use Rattle.sa_base.specs.declared.number.SpaceNo.{SpaceNo}
use Rattle.sa_base.specs.declared.number.ThreadNo.{ThreadNo}
use Rattle.sa_base.specs.declared.number.ActNo.{ActNo}
use Rattle.sa_base.specs.declared.limits.TheConstants.{MAX_PROCESSORS}
use Rattle.sa_base.specs.declared.record.Record.TheVariants as rec
use Rattle.sa_spaces.specs.Workload.{WorkloadView}
use Rattle.sa_lemmas.proofs.FunctionUpdates.{put-other}
use Rattle.sa_laws.specs.declared.place.Place.TheVariants as places
use Rattle.sa_laws.specs.State.{State, Runner, owner_at, runner_of, placed_if, with_owner}
use Rattle.sa_laws.specs.Life.{with_cont}
use Rattle.sa_laws.specs.Record.{with_life, stopped_with}
use Rattle.sa_replay.specs.Index.{runner_at}
use Rattle.sa_replay.proofs.IndexLemmas.{runner}
use Rattle.sa_virtual.specs.Virtual.{Virtuals, space_of, placed_on, thread_of, thread_of_life}
use Rattle.sa_virtual.specs.Turn.{placing, stopped, carried_on}
use Rattle.sa_virtual.specs.Holding.{Parts, parts_of, Holds, in_queue, one_if, threads_of}
use Rattle.sa_virtual.specs.Turning.{IsQuiet, Good, Met}
use Rattle.sa_virtual.proofs.Sums.{unqueued}
use Rattle.sa_virtual.proofs.Room.{put_event, put_below}
use Rattle.sa_virtual.proofs.PlacedOn as on
use Rattle.sa_virtual.proofs.Left as left
use Rattle.sa_virtual.proofs.Turns.{carrier}

pub quiet_set : (running : List (Option ActNo)) (p : ProcNo) → IsQuiet running → IsQuiet (set running p.0 None)
quiet_set running p quiet q = elim (cases_eq q.0 p.0) [
  | inl e ↦ elim (cases_lt q.0 (length running)) [
    | inl within ↦ ap (λ n. get_or (set running n None) q.0 None) (sym e) ∙ get_or-set_same running q.0 None None within
    | inr past ↦ get_or_past (set running p.0 None) q.0 None (omega (arith, past, length-set running p.0 None))
  ]
  | inr ne ↦ get_or-set_other running p.0 q.0 None None ne ∙ quiet q
]

pub same_owners : (a : State) (s : SpaceNo) (t : Option ThreadNo) → (placed_if a s t places.Carried).owners ≡ a.owners
same_owners a s None = refl
same_owners a s (Some t) = refl

-- the first of the queue is another one than that of a processor
pub differs : (w : WorkloadView) (p : ProcNo) (v : Virtuals) (good : Good w v) (a : ActNo) → placed_on v p ≡ Some a → (first : ActNo) (rest : List ActNo)
    → v.queue ≡ first ∷ rest → first.0 ≢ a.0
differs w p v good a at first rest queue is =
    let none = left.not_queued w (parts_of v) good.stands.runners good.stands.holds p a at in
    let some : in_queue v.queue a.0 ≡ one_if first.0 a.0 + in_queue rest a.0 = ap (λ q. in_queue q a.0) queue ∙ unqueued rest first a.0 in
    let one : one_if first.0 a.0 ≡ 1 = ap (λ b. cond b 1 0) (eq-eqb first.0 a.0 is) in
    absurd (omega (arith, none, some, one))

module _ (w : WorkloadView) (e : ℕ) (p : ProcNo) (v : Virtuals) (good : Good w v) (inside : p.0 < w.processors) (few : w.processors ≤ MAX_PROCESSORS)
    (a : ActNo) (at : placed_on v p ≡ Some a) where
  abbrev h : Holds w (parts_of v) good.stands.runners
  h = good.stands.holds

  abbrev s : SpaceNo
  s = space_of a

  -- what is known once it is stopped
  record Stopped (t : Option ThreadNo) : Type 0 where
    runners : List (Option Runner)
    holds : Holds w (left.stops w (parts_of v) good.stands.runners h p a at t) runners

  stop_it : (t : Option ThreadNo) → runner_at good.stands.runners p ≡ runner_of s t → Stopped t
  stop_it None runs = record { runners = good.stands.runners; holds = left.idle_holds w (parts_of v) good.stands.runners h p a at runs }
  stop_it (Some t) runs = record { runners = set good.stands.runners p.0 None; holds = left.stop_holds w (parts_of v) good.stands.runners h p a at t runs }

  module _ (t : Option ThreadNo) (runs : runner_at good.stands.runners p ≡ runner_of s t) (first : ActNo) (rest : List ActNo)
      (queue : v.queue ≡ first ∷ rest) where
    abbrev now : Parts
    now = left.stops w (parts_of v) good.stands.runners h p a at t

    done : Stopped t
    done = stop_it t runs

    queue' : now.queue ≡ first ∷ (rest ++ a ∷ [])
    queue' = ap (λ q. q ++ a ∷ []) queue

    free : get_or now.placed p.0 None ≡ None
    free = get_or-set_same v.placed p.0 None None (omega (arith, inside, h.processors))

    owns_still : owner_at now.state p ≡ Some s
    owns_still = ap (λ owners. get_or owners p.0 None) (same_owners v.base.state s t) ∙ (left.stop_needs w (parts_of v) good.stands.runners h p a at t runs).0

    -- its thread is what it was
    same_thread : threads_of now.lives first.0 ≡ thread_of v first
    same_thread = ap thread_of_life (put-other v.base.lives a.0 first.0 (option_map (stopped_with t) (v.base.lives a.0)) (differs w p v good a at first rest queue))

    quiet : IsQuiet (set v.base.running p.0 None)
    quiet = quiet_set v.base.running p good.quiet

    placed_twice : set (set v.placed p.0 None) p.0 (Some first) ≡ set v.placed p.0 (Some first)
    placed_twice = set-set v.placed p.0 None (Some first)

    go : (u : Option ThreadNo) → thread_of v first ≡ u → Met w e p v.base (placing p (Some s) u first (rec.Stop s t a ∷ []) (rest ++ a ∷ []) v)
    go None is = record {
      steps = (
        left.stop_needs w (parts_of v) good.stands.runners h p a at t runs,
        ((owns_still, on.nobody w now done.runners done.holds p inside free first (rest ++ a ∷ []) queue'), tt),
      );
      stands = record {
        runners = done.runners;
        holds =
            subst (λ placed. Holds w (record (on.places' w now done.runners done.holds p inside free first (rest ++ a ∷ []) queue' None) { placed = placed })
            done.runners)
            placed_twice (on.none_holds w now done.runners done.holds p inside free first (rest ++ a ∷ []) queue' (same_thread ∙ is));
      };
      quiet = quiet;
      some = omega arith;
      counts = λ c below. put_event c v.base.state s t places.Carried below;
    }
    go (Some u) is =
        let nobody = on.nobody w now done.runners done.holds p inside free first (rest ++ a ∷ []) queue' in
        record {
          steps = (
            left.stop_needs w (parts_of v) good.stands.runners h p a at t runs,
            (
              (owns_still, nobody),
              (
                (
                  on.owns w now done.runners done.holds p inside free first (rest ++ a ∷ []) queue',
                  nobody,
                  on.place w now done.runners done.holds p inside free first (rest ++ a ∷ []) queue' u (same_thread ∙ is),
                ),
                tt,
              ),
            ),
          );
          stands = record {
            runners = set done.runners p.0 (Some (runner (space_of first) u));
            holds =
                subst (λ placed. Holds w (record (on.places' w now done.runners done.holds p inside free first (rest ++ a ∷ []) queue' (Some u)) {
                  placed = placed;
                  lives = with_life (with_cont true) (get_or (set v.base.running p.0 None) p.0 None) now.lives;
                }) (set done.runners p.0 (Some (runner (space_of first) u))))
                placed_twice
                (subst (λ o. Holds w (record (on.places' w now done.runners done.holds p inside free first (rest ++ a ∷ []) queue' (Some u)) {
                  lives = with_life (with_cont true) o now.lives;
                }) (set done.runners p.0 (Some (runner (space_of first) u))))
                (sym (quiet p)) (on.some_holds w now done.runners done.holds p inside free first (rest ++ a ∷ []) queue' u (same_thread ∙ is)));
          };
          quiet = quiet;
          some = omega arith;
          counts =
              λ c below. put_event c (with_owner now.state p (Some (space_of first))) (space_of first) (Some u) (places.Running p)
              (put_below c v.base.state s t places.Carried below);
        }

  -- 3. ITS STEPS ARE MADE
  pub stops_it : (first : ActNo) (rest : List ActNo) → v.queue ≡ first ∷ rest → Met w e p v.base (stopped v p a (carried_on v p) (first ∷ rest))
  stops_it first rest queue = go (carried_on v p) (carrier w e p v good a at few) first rest queue (thread_of v first) refl
