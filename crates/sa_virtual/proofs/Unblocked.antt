-- An I/O is over.
use Rattle.std.proofs.Common.{◌≡◌, ℕ, ◌<◌, List, [], ◌∷◌, ◌++◌, length, filter, Option, Some, None, refl, sym, ap, subst, ◌∙◌, arith}
use Rattle.std.specs.Prelude.{All}
use Rattle.std.specs.List.{list_any}
use Rattle.std.proofs.lemmas.List.Elements.{All-filter}
use Rattle.std.proofs.lemmas.List.Sums.{sum_by_push}
use Rattle.sa_base.specs.declared.number.SpaceNo.{SpaceNo}
use Rattle.sa_base.specs.declared.number.ThreadNo.{ThreadNo}
use Rattle.sa_base.specs.declared.number.ActNo.{ActNo}
use Rattle.sa_spaces.specs.Workload.{WorkloadView}
use Rattle.sa_devices.specs.Ios.{Io}
use Rattle.sa_laws.specs.declared.place.Place.TheVariants as places
use Rattle.sa_laws.specs.State.{State, SpaceState, Runner, placed_if}
use Rattle.sa_laws.specs.Life.{Life, with_hand}
use Rattle.sa_laws.specs.Readings.{Readings}
use Rattle.sa_laws.specs.Record.{with_life, one_thread, is_io_of, is_io_of_other}
use Rattle.sa_laws.specs.Step.{StandsIn, CanUnblock}
use Rattle.sa_replay.specs.Running.{is_running}
use Rattle.sa_replay.specs.Spaces.{place_in}
use Rattle.sa_replay.proofs.ChangeLemmas.{is_there}
use Rattle.sa_replay.proofs.ReplayLemmas.{put_kept}
use Rattle.sa_virtual.specs.Virtual.{space_of, thread_of_life}
use Rattle.sa_virtual.specs.Holding.{Parts, Holds, counts_of, threads_of, AllAgree, holds, in_ios, AreOnce, IsOwn}
use Rattle.sa_virtual.proofs.Agree.{at_self, Moves, moved}
use Rattle.sa_virtual.proofs.Sums.{at_none, holds_some, holds_none, queued, some_io, io_over_holds, io_over_once}
use Rattle.sa_virtual.proofs.Kept.{sized_put, within_put, KeepsLife, lives_kept, threads_same, is_blocked, settled_moves}

module _ (w : WorkloadView) (v : Parts) (a : ActNo) (runners : List (Option Runner)) (h : Holds w v runners) (there : in_ios v.ios a.0 ≡ 1) where
  abbrev s : SpaceNo
  s = space_of a

  abbrev threads : ℕ → Option ThreadNo
  threads = threads_of v.lives

  abbrev handed : Option ThreadNo → Life → Life
  handed t = with_hand (one_thread t)

  abbrev over : Option ThreadNo → Parts
  over t = record v {
    state = placed_if v.state s t places.Carried;
    lives = with_life (handed t) (Some a) v.lives;
    ios = filter (is_io_of_other a) v.ios;
    queue = v.queue ++ a ∷ [];
  }

  keeps : (t : Option ThreadNo) → KeepsLife (handed t)
  keeps t = record { space = λ life. refl; locks = λ life. refl }

  -- the thread is blocked
  pub stands : (t : ThreadNo) → threads a.0 ≡ Some t → place_in v.state.spaces s t ≡ places.Blocked
  stands t is =
      let one : holds threads s.0 t.0 a ≡ 1 = holds_some threads s.0 t.0 a t is ∙ at_self s.0 t.0 1 in
      is_blocked (place_in v.state.spaces s t) (omega (arith, one, io_over_holds threads s.0 t.0 a v.ios there, (h.agree s.0 t.0).in_ios))

  stands_if : (t : Option ThreadNo) → threads a.0 ≡ t → StandsIn places.Blocked v.state s t
  stands_if None is = tt
  stands_if (Some t) is = stands t is

  -- it is blocked, and the unblock names its thread
  pub needs : (r : Readings) → r.state ≡ v.state → r.lives ≡ v.lives → r.under_way ≡ v.ios → (t : Option ThreadNo) → threads a.0 ≡ t → CanUnblock r s t a
  needs r state lives ios t is = let have = h.lives a in record {
    life = have.0;
    is = ap (λ (f : ℕ → Option Life). f a.0) lives ∙ have.1;
    space = have.2;
    thread = sym (ap thread_of_life have.1) ∙ is;
    io = ap (list_any (is_io_of a)) ios ∙ some_io v.ios a (omega (arith, there));
    blocked = subst (λ (x : State). StandsIn places.Blocked x s t) (sym state) (stands_if t is);
  }

  -- where everything is
  once : AreOnce w (v.queue ++ a ∷ []) v.placed (filter (is_io_of_other a) v.ios)
  once b = omega (arith, h.once b, queued v.queue a b, io_over_once a b v.ios there)

  ios : All (λ (io : Io). IsOwn io.kind) (filter (is_io_of_other a) v.ios)
  ios = All-filter (is_io_of_other a) (λ (io : Io). IsOwn io.kind) v.ios h.ios

  -- who has what
  same_counts : (t : Option ThreadNo) → (c : ℕ → Option ThreadNo) → c ≡ threads → (spaces : List SpaceState)
      → AllAgree (counts_of w.processors threads (over t)) spaces → AllAgree (counts_of w.processors c (over t)) spaces
  same_counts t c is spaces agree = subst (λ x. AllAgree (counts_of w.processors x (over t)) spaces) (sym is) agree

  module _ (t : ThreadNo) (is : threads a.0 ≡ Some t) where
    moves : Moves s.0 t.0 places.Blocked places.Carried (counts_of w.processors threads v) (counts_of w.processors threads (over (Some t)))
    moves = record {
      ready = λ r u. refl;
      carries = λ r u. omega (arith, sum_by_push (holds threads r u) v.queue a, holds_some threads r u a t is, at_none s.0 t.0 r u);
      blocks = λ r u. omega (arith, io_over_holds threads r u a v.ios there, holds_some threads r u a t is, at_none s.0 t.0 r u);
      works = λ r u. refl;
    }

    place : place_in v.state.spaces s t ≡ places.Blocked
    place = stands t is

    inside : s.0 < length v.state.spaces
    inside = is_there v.state.spaces s t (λ e. let both : places.Blocked ≡ places.Done = sym place ∙ e in cc)

    some_holds : Holds w (over (Some t)) runners
    some_holds = record {
      replay =
          put_kept w v.state.spaces v.state.owners runners h.replay s t places.Carried (settled_moves v.state.spaces s t places.Blocked refl place)
          (ap is_running place) refl;
      owners = h.owners;
      sized = sized_put w v.state.spaces s t places.Carried inside h.sized;
      within = within_put w v.state.spaces s t places.Carried inside h.within;
      processors = h.processors;
      spaces = h.spaces;
      once = once;
      fits = h.fits;
      lives = lives_kept w (handed (Some t)) a v.lives (keeps (Some t)) h.lives;
      ios = ios;
      agree = same_counts (Some t) (threads_of (over (Some t)).lives) (threads_same (handed (Some t)) a v.lives (λ life. refl)) (over (Some t)).state.spaces
          (moved (counts_of w.processors threads v)
          (counts_of w.processors threads (over (Some t))) v.state.spaces s t places.Blocked places.Carried h.agree place (λ e. cc) moves);
    }

  -- one that carries no thread
  none_agrees : threads a.0 ≡ None → AllAgree (counts_of w.processors threads (over None)) v.state.spaces
  none_agrees is r u =
      let g = h.agree r u in
      let none = holds_none threads r u a is in
      record {
        in_lists = g.in_lists;
        in_queue = omega (arith, g.in_queue, sum_by_push (holds threads r u) v.queue a, none);
        in_ios = omega (arith, g.in_ios, io_over_holds threads r u a v.ios there, none);
        in_work = g.in_work;
      }

  none_holds : threads a.0 ≡ None → Holds w (over None) runners
  none_holds is = record {
    replay = h.replay;
    owners = h.owners;
    sized = h.sized;
    within = h.within;
    processors = h.processors;
    spaces = h.spaces;
    once = once;
    fits = h.fits;
    lives = lives_kept w (handed None) a v.lives (keeps None) h.lives;
    ios = ios;
    agree = same_counts None (threads_of (over None).lives) (threads_same (handed None) a v.lives (λ life. refl)) v.state.spaces (none_agrees is);
  }

  pub over_holds : (t : Option ThreadNo) → threads a.0 ≡ t → Holds w (over t) runners
  over_holds None is = none_holds is
  over_holds (Some t) is = some_holds t is
