-- A virtual processor leaves its processor, stopped or blocked; and one is placed.
use Rattle.std.proofs.Common.{◌≡◌, ◌≢◌, ℕ, ◌+◌, ◌<◌, ◌≤◌, cond, List, [], ◌∷◌, ◌++◌, length, get_or, set, Option, Some, None, inl, inr, refl, sym, ap, subst, ◌∙◌, arith}
use Rattle.std.proofs.lemmas.Bool.{cases_eq}
use Rattle.std.proofs.lemmas.List.{length-set, get_or-set_same, get_or-set_other}
use Rattle.std.proofs.lemmas.List.Elements.{All-push}
use Rattle.std.proofs.lemmas.List.Sums.{sum_by_push}
use Rattle.sa_base.specs.declared.number.ProcNo.{ProcNo}
use Rattle.sa_base.specs.declared.number.SpaceNo.{SpaceNo}
use Rattle.sa_base.specs.declared.number.ThreadNo.{ThreadNo}
use Rattle.sa_base.specs.declared.number.ActNo.{ActNo}
use Rattle.sa_spaces.specs.Workload.{WorkloadView}
use Rattle.sa_lemmas.specs.Function.{put}
use Rattle.sa_lemmas.proofs.FunctionUpdates.{put-same}
use Rattle.sa_devices.specs.Ios.{Io}
use Rattle.sa_laws.specs.declared.place.Place.TheVariants as places
use Rattle.sa_laws.specs.State.{SpaceState, Runner, placed, placed_if, with_owner, owner_at, runner_of}
use Rattle.sa_laws.specs.Life.{held_with}
use Rattle.sa_laws.specs.Record.{with_life, stopped_with, is_kind_of}
use Rattle.sa_laws.specs.Step.{NobodyRuns, IsRunner}
use Rattle.sa_replay.specs.Spaces.{place_in}
use Rattle.sa_replay.specs.Index.{runner_at}
use Rattle.sa_replay.specs.Inside.{IsReplay}
use Rattle.sa_replay.proofs.IndexLemmas.{runner, index-finds, runs_within}
use Rattle.sa_replay.proofs.ChangeLemmas.{is_there}
use Rattle.sa_replay.proofs.ReplayLemmas.{leave_kept, owner_kept}
use Rattle.sa_virtual.specs.Virtual.{space_of}
use Rattle.sa_virtual.specs.Holding.{Parts, Holds, RunsForOwner, counts_of, threads_of, AllAgree, AreOnce, in_queue, on_processors, in_ios, is_one, is_virtual, holds, holds_for, one_if, one_where, IsOwn}
use Rattle.sa_virtual.proofs.Agree.{if_at, Moves, moved}
use Rattle.sa_virtual.proofs.Sums.{at_none, holds_some, holds_none, queued, placed_there, carried_other, blocked_other, one_or_none}
use Rattle.sa_virtual.proofs.Kept.{sized_put, within_put, KeepsLife, lives_kept, threads_new, settled_moves}
use Rattle.sa_virtual.proofs.Pushed.{placed_within, placed_once, owned}

-- nothing is on a processor that was left
left_fits : (owners : List (Option SpaceNo)) (o : Option SpaceNo) (runners others : List (Option Runner)) (placed : List (Option ActNo)) (p : ProcNo)
    → ((q : ProcNo) → RunsForOwner (get_or owners q.0 None) (runner_at runners q) (get_or placed q.0 None)) → p.0 < length placed
    → runner_at others p ≡ None → ((q : ProcNo) → q.0 ≢ p.0 → runner_at others q ≡ runner_at runners q)
    → (q : ProcNo) → RunsForOwner (get_or owners q.0 None) (runner_at others q) (get_or (set placed p.0 None) q.0 None)
left_fits owners o runners others placed p fits within none same q = elim (cases_eq q.0 p.0) [
  | inl e ↦
      let gone : get_or (set placed p.0 None) q.0 None ≡ None = ap (λ n. get_or (set placed p.0 None) n None) e ∙ get_or-set_same placed p.0 None None within in
      let idle : runner_at others q ≡ None = ap (λ n. get_or others n None) e ∙ none in
      record { owned = λ a is. let both : None ≡ Some a = sym gone ∙ is in cc; runs = λ x is. let both : None ≡ Some x = sym idle ∙ is in cc }
  | inr ne ↦
      let there : get_or (set placed p.0 None) q.0 None ≡ get_or placed q.0 None = get_or-set_other placed p.0 q.0 None None ne in
      record {
        owned = λ a is. (fits q).owned a (sym there ∙ is);
        runs = λ x is. let old = (fits q).runs x (sym (same q ne) ∙ is) in (old.0, there ∙ old.1, old.2);
      }
]

module _ (w : WorkloadView) (v : Parts) (runners : List (Option Runner)) (h : Holds w v runners) (p : ProcNo) (a : ActNo)
    (at : get_or v.placed p.0 None ≡ Some a) where
  abbrev s : SpaceNo
  s = space_of a

  abbrev threads : ℕ → Option ThreadNo
  threads = threads_of v.lives

  within : p.0 < length v.placed
  within = placed_within w v runners h p a at

  bound : one_where (is_virtual w (record { 0 = a.0 })) ≤ 1
  bound = one_or_none (is_virtual w (record { 0 = a.0 }))

  pub not_queued : in_queue v.queue a.0 ≡ 0
  not_queued = omega (arith, bound, h.once a.0, placed_once w v runners h p a at)

  not_blocked : in_ios v.ios a.0 ≡ 0
  not_blocked = omega (arith, bound, h.once a.0, placed_once w v runners h p a at)

  leaves : (b : ℕ) → on_processors (set v.placed p.0 None) b + one_if a.0 b ≡ on_processors v.placed b
  leaves b =
      let old : one_where (is_one b (get_or v.placed p.0 None)) ≡ one_if a.0 b = ap (λ (o : Option ActNo). one_where (is_one b o)) at in
      omega (arith, placed_there v.placed p.0 None b within, old)

  holds_now : (t : Option ThreadNo) (r u : ℕ) (u' : ThreadNo) → t ≡ Some u' → holds (put threads a.0 t) r u a ≡ if_at s.0 u'.0 r u 1
  holds_now t r u u' is = holds_some (put threads a.0 t) r u a u' (put-same threads a.0 t ∙ is)

  -- STOPPED
  abbrev pub stops : Option ThreadNo → Parts
  stops t = record v {
    state = placed_if v.state s t places.Carried;
    lives = with_life (stopped_with t) (Some a) v.lives;
    queue = v.queue ++ a ∷ [];
    placed = set v.placed p.0 None;
  }

  pub stop_needs : (t : Option ThreadNo) → runner_at runners p ≡ runner_of s t → (owner_at v.state p ≡ Some s) × IsRunner v.state p s t
  stop_needs t runs = (owned w v runners h p a at, sym (index-finds p v.state.spaces runners h.replay.index) ∙ runs)

  keeps_stop : (t : Option ThreadNo) → KeepsLife (stopped_with t)
  keeps_stop t = record { space = λ life. refl; locks = λ life. refl }

  stop_once : AreOnce w (v.queue ++ a ∷ []) (set v.placed p.0 None) v.ios
  stop_once b = omega (arith, h.once b, queued v.queue a b, leaves b)

  module _ (t : ThreadNo) (runs : runner_at runners p ≡ Some (runner s t)) where
    pub place : place_in v.state.spaces s t ≡ places.Running p
    place = h.replay.index.there p s t runs

    inside : s.0 < length v.state.spaces
    inside = is_there v.state.spaces s t (λ e. let both : places.Running p ≡ places.Done = sym place ∙ e in cc)

    left_runners : (q : ProcNo) → RunsForOwner (owner_at v.state q) (runner_at (set runners p.0 None) q) (get_or (set v.placed p.0 None) q.0 None)
    left_runners = left_fits v.state.owners None runners (set runners p.0 None) v.placed p h.fits within
        (get_or-set_same runners p.0 None None (runs_within runners p (runner s t) runs))
        (λ q ne. get_or-set_other runners p.0 q.0 None None ne)

    stop_moves : Moves s.0 t.0 (places.Running p) places.Carried (counts_of w.processors threads v)
        (counts_of w.processors (put threads a.0 (Some t)) (stops (Some t)))
    stop_moves = record {
      ready = λ r u. refl;
      carries =
          λ r u. omega (
            arith,
            sum_by_push (holds (put threads a.0 (Some t)) r u) v.queue a,
            holds_now (Some t) r u t refl,
            carried_other threads (Some t) r u a v.queue not_queued,
            at_none s.0 t.0 r u,
          );
      blocks = λ r u. omega (arith, blocked_other threads (Some t) r u a v.ios not_blocked);
      works = λ r u. refl;
    }

    pub stop_holds : Holds w (stops (Some t)) (set runners p.0 None)
    stop_holds = record {
      replay =
          leave_kept w v.state.spaces v.state.owners runners h.replay s t places.Carried
          (settled_moves v.state.spaces s t (places.Running p) refl place) p place refl;
      owners = h.owners;
      sized = sized_put w v.state.spaces s t places.Carried inside h.sized;
      within = within_put w v.state.spaces s t places.Carried inside h.within;
      processors = length-set v.placed p.0 None ∙ h.processors;
      spaces = h.spaces;
      once = stop_once;
      fits = left_runners;
      lives = lives_kept w (stopped_with (Some t)) a v.lives (keeps_stop (Some t)) h.lives;
      ios = h.ios;
      agree =
          subst (λ f. AllAgree (counts_of w.processors f (stops (Some t))) (stops (Some t)).state.spaces)
          (sym (threads_new w (stopped_with (Some t)) a v.lives (Some t) h.lives (λ life. refl)))
          (moved (counts_of w.processors threads v) (counts_of w.processors (put threads a.0 (Some t)) (stops (Some t))) v.state.spaces s t
          (places.Running p) places.Carried h.agree place (λ e. cc) stop_moves);
    }

    -- BLOCKED, for an I/O of it; its processor has no owner then
    module _ (io : Io) (of : (b : ℕ) → one_where (is_kind_of (record { 0 = b }) io.kind) ≡ one_if a.0 b)
        (carries : (f : ℕ → Option ThreadNo) (r u : ℕ) → holds_for f r u io.kind ≡ holds f r u a) (own : IsOwn io.kind) where
      abbrev pub blocks : Parts
      blocks = record v {
        state = with_owner (placed v.state s t places.Blocked) p None;
        lives = with_life (held_with (Some t)) (Some a) v.lives;
        ios = v.ios ++ io ∷ [];
        placed = set v.placed p.0 None;
      }

      pub block_needs : (owner_at v.state p ≡ Some s) × IsRunner v.state p s (Some t)
      block_needs = (owned w v runners h p a at, sym (index-finds p v.state.spaces runners h.replay.index) ∙ runs)

      abbrev spaces' : List SpaceState
      spaces' = (placed v.state s t places.Blocked).spaces

      left : IsReplay w spaces' v.state.owners (set runners p.0 None)
      left =
          leave_kept w v.state.spaces v.state.owners runners h.replay s t places.Blocked
          (settled_moves v.state.spaces s t (places.Running p) refl place) p place refl

      -- and nobody runs there: so the processor can move
      pub block_moves_on : (owner_at (placed v.state s t places.Blocked) p ≡ Some s) × NobodyRuns (placed v.state s t places.Blocked) p
      block_moves_on = (
        owned w v runners h p a at,
        sym (index-finds p spaces' (set runners p.0 None) left.index) ∙ get_or-set_same runners p.0 None None (runs_within runners p (runner s t) runs),
      )

      block_counts : Moves s.0 t.0 (places.Running p) places.Blocked (counts_of w.processors threads v)
          (counts_of w.processors (put threads a.0 (Some t)) blocks)
      block_counts = record {
        ready = λ r u. refl;
        carries = λ r u. omega (arith, carried_other threads (Some t) r u a v.queue not_queued);
        blocks =
            λ r u. omega (
              arith,
              sum_by_push (λ (x : Io). holds_for (put threads a.0 (Some t)) r u x.kind) v.ios io,
              carries (put threads a.0 (Some t)) r u,
              holds_now (Some t) r u t refl,
              blocked_other threads (Some t) r u a v.ios not_blocked,
              at_none s.0 t.0 r u,
            );
        works = λ r u. refl;
      }

      block_once : AreOnce w v.queue (set v.placed p.0 None) (v.ios ++ io ∷ [])
      block_once b = omega (arith, h.once b, sum_by_push (λ (x : Io). cond (is_kind_of (record { 0 = b }) x.kind) 1 0) v.ios io, of b, leaves b)

      keeps_block : KeepsLife (held_with (Some t))
      keeps_block = record { space = λ life. refl; locks = λ life. refl }

      pub block_holds : Holds w blocks (set runners p.0 None)
      block_holds = record {
        replay = owner_kept w spaces' v.state.owners (set runners p.0 None) left p None;
        owners = length-set v.state.owners p.0 None ∙ h.owners;
        sized = sized_put w v.state.spaces s t places.Blocked inside h.sized;
        within = within_put w v.state.spaces s t places.Blocked inside h.within;
        processors = length-set v.placed p.0 None ∙ h.processors;
        spaces = h.spaces;
        once = block_once;
        fits = λ q. elim (cases_eq q.0 p.0) [
          | inl e ↦
              let gone : get_or (set v.placed p.0 None) q.0 None ≡ None =
              ap (λ n. get_or (set v.placed p.0 None) n None) e ∙ get_or-set_same v.placed p.0 None None within in
              record { owned = λ b is. let both : None ≡ Some b = sym gone ∙ is in cc; runs = (left_runners q).runs }
          | inr ne ↦ record { owned = λ b is. get_or-set_other v.state.owners p.0 q.0 None None ne ∙ (left_runners q).owned b is; runs = (left_runners q).runs }
        ];
        lives = lives_kept w (held_with (Some t)) a v.lives keeps_block h.lives;
        ios = All-push (λ (x : Io). IsOwn x.kind) v.ios io h.ios own;
        agree =
            subst (λ f. AllAgree (counts_of w.processors f blocks) spaces') (sym (threads_new w (held_with (Some t)) a v.lives (Some t) h.lives (λ life. refl)))
            (moved (counts_of w.processors threads v) (counts_of w.processors (put threads a.0 (Some t)) blocks) v.state.spaces s t
            (places.Running p) places.Blocked h.agree place (λ e. cc) block_counts);
      }

  -- one that carried no thread is stopped
  module _ (idle : runner_at runners p ≡ None) where
    idle_agrees : AllAgree (counts_of w.processors (put threads a.0 None) (stops None)) v.state.spaces
    idle_agrees r u =
        let g = h.agree r u in
        record {
          in_lists = g.in_lists;
          in_queue =
              omega (
                arith,
                g.in_queue,
                sum_by_push (holds (put threads a.0 None) r u) v.queue a,
                holds_none (put threads a.0 None) r u a (put-same threads a.0 None),
                carried_other threads None r u a v.queue not_queued,
              );
          in_ios = omega (arith, g.in_ios, blocked_other threads None r u a v.ios not_blocked);
          in_work = g.in_work;
        }

    pub idle_holds : Holds w (stops None) runners
    idle_holds = record {
      replay = h.replay;
      owners = h.owners;
      sized = h.sized;
      within = h.within;
      processors = length-set v.placed p.0 None ∙ h.processors;
      spaces = h.spaces;
      once = stop_once;
      fits = left_fits v.state.owners None runners runners v.placed p h.fits within idle (λ q ne. refl);
      lives = lives_kept w (stopped_with None) a v.lives (keeps_stop None) h.lives;
      ios = h.ios;
      agree =
          subst (λ f. AllAgree (counts_of w.processors f (stops None)) v.state.spaces)
          (sym (threads_new w (stopped_with None) a v.lives None h.lives (λ life. refl))) idle_agrees;
    }
