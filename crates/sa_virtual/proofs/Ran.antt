-- A placed virtual processor runs one instruction of its thread.
use Rattle.std.proofs.Common.{◌≡◌, ◌≢◌, ℕ, ◌+◌, ◌<◌, ◌≤◌, true, false, List, ◌++◌, length, get_or, set, Option, Some, None, inl, inr, refl, sym, ap, ◌∙◌, arith}
use Rattle.std.proofs.lemmas.Bool.{cases_eq}
use Rattle.std.proofs.lemmas.List.{get_or-set_same, get_or-set_other, map-append}
use Rattle.sa_base.specs.declared.number.ProcNo.{ProcNo}
use Rattle.sa_base.specs.declared.number.SpaceNo.{SpaceNo}
use Rattle.sa_base.specs.declared.number.ThreadNo.{ThreadNo}
use Rattle.sa_base.specs.declared.number.ActNo.{ActNo}
use Rattle.sa_base.specs.declared.limits.TheConstants.{MAX_PROCESSORS}
use Rattle.sa_spaces.specs.Workload.{WorkloadView}
use Rattle.sa_links.specs.Lists.{count_in}
use Rattle.sa_links.proofs.Counting.{count-append}
use Rattle.sa_sync.specs.Sync.{waits_of}
use Rattle.sa_lemmas.specs.Function.{put}
use Rattle.sa_laws.specs.declared.place.Place.{Place}
use Rattle.sa_laws.specs.declared.place.Place.TheVariants as places
use Rattle.sa_laws.specs.State.{SpaceState, Runner, with_space, thread_at, owner_at, next_instr, space_def, is_waiting, thread_in}
use Rattle.sa_laws.specs.Effect.{Effect}
use Rattle.sa_laws.specs.Machine.{next_effect}
use Rattle.sa_replay.specs.Running.{is_running, IsAt}
use Rattle.sa_replay.specs.Space.{CanDo}
use Rattle.sa_replay.specs.Shape.{IsShaped}
use Rattle.sa_replay.specs.Sound.{IsSound}
use Rattle.sa_replay.proofs.ShapeLemmas.{shape, stays_sound, was_made}
use Rattle.sa_replay.specs.Spaces.{space_in, with_space_in, place_in}
use Rattle.sa_replay.specs.Index.{runner_at}
use Rattle.sa_replay.specs.Inside.{IsReplay}
use Rattle.sa_replay.proofs.IndexLemmas.{runner, runs_within}
use Rattle.sa_replay.proofs.ChangeLemmas.{is_there}
use Rattle.sa_replay.proofs.ReplayLemmas.{go_kept, stop_kept}
use Rattle.sa_virtual.specs.Virtual.{space_of, list_of}
use Rattle.sa_virtual.specs.Holding.{Parts, Holds, RunsForOwner, IsSized, StandWithin, counts_of, threads_of, AllAgree, worked, numbers, at_no, one_where}
use Rattle.sa_virtual.proofs.Effects.{Tells, tells_of}
use Rattle.sa_virtual.proofs.Agree.{Rouses, ran}
use Rattle.sa_virtual.proofs.Sums.{work_past, work_here}
use Rattle.sa_virtual.proofs.Kept.{each_set}
use Rattle.sa_virtual.proofs.Pushed.{known, number_is, number_other}

-- who is in a queue waits
waits_then : (place : Place) (n m : ℕ) → n + m ≡ one_where (is_waiting place) → 1 ≤ n → place ≡ places.Waiting
waits_then places.Waiting n m sum some = refl
waits_then _ n m sum some = absurd (omega (arith, sum, some))

module _ (w : WorkloadView) (v : Parts) (runners : List (Option Runner)) (h : Holds w v runners) (p : ProcNo) (a : ActNo)
    (at : get_or v.placed p.0 None ≡ Some a)
    (few : w.processors ≤ MAX_PROCESSORS) (t : ThreadNo) (runs : runner_at runners p ≡ Some (runner (space_of a) t)) where
  abbrev s : SpaceNo
  s = space_of a

  abbrev x : SpaceState
  x = space_in v.state.spaces s

  abbrev threads : ℕ → Option ThreadNo
  threads = threads_of v.lives

  abbrev run : Effect
  run = next_effect w v.state s t

  abbrev pub goes : Parts
  goes = record v { state = with_space v.state s run.space; work = put v.work a.0 (v.work a.0 ++ run.roused) }

  pub place : place_in v.state.spaces s t ≡ places.Running p
  place = h.replay.index.there p s t runs

  pub not_done : place_in v.state.spaces s t ≢ places.Done
  not_done e = let both : places.Running p ≡ places.Done = sym place ∙ e in cc

  pub inside : s.0 < length v.state.spaces
  inside = is_there v.state.spaces s t not_done

  pub made : t.0 < length x.threads
  made = was_made x t not_done

  pub sound : IsSound x
  sound = record {
    few = (h.sized s.0).few;
    joiners = (h.sized s.0).joiners;
    waiting = λ u some. waits_then (thread_in x u).place (waits_of x.sync u.0) (worked v.work w.processors s.0 u.0) (h.agree s.0 u.0).in_work some;
  }

  -- it stands at an instruction of its program
  pub stands : IsAt (space_def w s) (thread_at v.state s t)
  stands = h.within s.0 t.0 made

  -- given that it can do it, and that all threads are within their programs then
  module _ (can : CanDo (space_def w s) x t (thread_at v.state s t) (next_instr w v.state s t))
      (then : StandWithin w (with_space_in v.state.spaces s run.space)) where
    shaped : IsShaped x t (thread_at v.state s t).place run.space
    shaped = shape (space_def w s) x t (thread_at v.state s t) (next_instr w v.state s t) can

    tells : Tells x run
    tells = tells_of x t p place made (space_def w s) (thread_at v.state s t) place (next_instr w v.state s t) can

    rouses : Rouses s.0 run.roused (counts_of w.processors threads v) (counts_of w.processors threads goes)
    rouses = record {
      ready = λ r u. refl;
      carries = λ r u. refl;
      blocks = λ r u. refl;
      here = λ u.
          let all : count_in u (numbers (v.work a.0 ++ run.roused)) ≡ count_in u (numbers (v.work a.0)) + count_in u (numbers run.roused) =
          ap (count_in u) (map-append (λ (n : ThreadNo). n.0) (v.work a.0) run.roused) ∙ count-append u (numbers (v.work a.0)) (numbers run.roused) in
          omega (arith, all, work_here v.work a.0 (v.work a.0 ++ run.roused) w.processors s.0 u (list_of a).0 (known w v runners h p a at).1 (number_is a));
      elsewhere = λ r u ne. work_past v.work a.0 (v.work a.0 ++ run.roused) w.processors r u (λ k below. number_other a r k ne (omega (arith, few, below)));
    }

    sized : (r : ℕ) → IsSized (at_no (with_space_in v.state.spaces s run.space) r)
    sized = each_set (λ r z. IsSized z) v.state.spaces s run.space inside h.sized
        (let kept = stays_sound x t (thread_at v.state s t).place run.space shaped sound made (λ waits. let both : places.Running p ≡ places.Waiting =
        sym place ∙ waits in cc) in
        record { few = kept.few; joiners = kept.joiners })

    agree : AllAgree (counts_of w.processors threads goes) (with_space_in v.state.spaces s run.space)
    agree = ran (counts_of w.processors threads v) (counts_of w.processors threads goes) v.state.spaces s inside run h.agree tells rouses

    holds_with : (others : List (Option Runner)) → IsReplay w (with_space_in v.state.spaces s run.space) v.state.owners others
        → ((q : ProcNo) → RunsForOwner (owner_at v.state q) (runner_at others q) (get_or v.placed q.0 None)) → Holds w goes others
    holds_with others replay fits = record {
      replay = replay;
      owners = h.owners;
      sized = sized;
      within = then;
      processors = h.processors;
      spaces = h.spaces;
      once = h.once;
      fits = fits;
      lives = h.lives;
      ios = h.ios;
      agree = agree;
    }

    -- it runs on
    pub on_holds : is_running (place_in (with_space_in v.state.spaces s run.space) s t) ≡ true → Holds w goes runners
    on_holds still = holds_with runners (go_kept w v.state.spaces v.state.owners runners h.replay p s t run.space place shaped still) h.fits

    -- it waits, or is done
    pub off_holds : is_running (place_in (with_space_in v.state.spaces s run.space) s t) ≡ false → Holds w goes (set runners p.0 None)
    off_holds rests =
        holds_with (set runners p.0 None) (stop_kept w v.state.spaces v.state.owners runners h.replay p s t run.space place shaped rests) (λ q. record {
          owned = (h.fits q).owned;
          runs = λ y is. elim (cases_eq q.0 p.0) [
            | inl e ↦
                let none : runner_at (set runners p.0 None) q ≡ None =
                ap (λ n. get_or (set runners p.0 None) n None) e ∙ get_or-set_same runners p.0 None None (runs_within runners p (runner s t) runs) in
                let both : None ≡ Some y = sym none ∙ is in cc
            | inr ne ↦ (h.fits q).runs y (sym (get_or-set_other runners p.0 q.0 None None ne) ∙ is)
          ];
        })
