-- The first of the queue is placed, and goes on with its thread.
use Rattle.std.proofs.Common.{◌≡◌, ℕ, ◌+◌, ◌<◌, List, ◌∷◌, length, get_or, set, Option, Some, None, inl, inr, refl, sym, ap, ◌∙◌, arith}
use Rattle.std.proofs.lemmas.Bool.{cases_eq}
use Rattle.std.proofs.lemmas.Option.{same_Some}
use Rattle.std.proofs.lemmas.List.{length-set, get_or-set_same, get_or-set_other}
use Rattle.std.proofs.lemmas.List.Sums.{sum_by-cons}
use Rattle.sa_base.specs.declared.number.ProcNo.{ProcNo}
use Rattle.sa_base.specs.declared.number.SpaceNo.{SpaceNo}
use Rattle.sa_base.specs.declared.number.ThreadNo.{ThreadNo}
use Rattle.sa_base.specs.declared.number.ActNo.{ActNo}
use Rattle.sa_spaces.specs.Workload.{WorkloadView}
use Rattle.sa_laws.specs.declared.place.Place.TheVariants as places
use Rattle.sa_laws.specs.State.{State, Runner, placed, placed_if, with_owner, owner_at}
use Rattle.sa_laws.specs.Step.{NobodyRuns}
use Rattle.sa_replay.specs.Running.{is_running}
use Rattle.sa_replay.specs.Spaces.{place_in}
use Rattle.sa_replay.specs.Index.{runner_at}
use Rattle.sa_replay.specs.Inside.{IsReplay}
use Rattle.sa_replay.proofs.IndexLemmas.{runner, index-finds}
use Rattle.sa_replay.proofs.ChangeLemmas.{is_there}
use Rattle.sa_replay.proofs.ReplayLemmas.{enter_kept, owner_kept}
use Rattle.sa_virtual.specs.Virtual.{space_of}
use Rattle.sa_virtual.specs.Holding.{Parts, Holds, RunsForOwner, counts_of, threads_of, AreOnce, in_queue, is_one, holds, carried, one_where, one_if}
use Rattle.sa_virtual.proofs.Agree.{at_self, Moves, moved}
use Rattle.sa_virtual.proofs.Sums.{at_none, holds_some, holds_none, unqueued, placed_there}
use Rattle.sa_virtual.proofs.Kept.{sized_put, within_put, is_carried, settled_moves}
use Rattle.sa_virtual.proofs.Pushed.{entered}

-- who is on each processor, once one is placed
place_fits : (owners : List (Option SpaceNo)) (runners : List (Option Runner)) (placed : List (Option ActNo)) (p : ProcNo) (a : ActNo)
    → ((q : ProcNo) → RunsForOwner (get_or owners q.0 None) (runner_at runners q) (get_or placed q.0 None)) → p.0 < length placed → p.0 < length owners
    → runner_at runners p ≡ None
    → (q : ProcNo) → RunsForOwner (get_or (set owners p.0 (Some (space_of a))) q.0 None) (runner_at runners q) (get_or (set placed p.0 (Some a)) q.0 None)
place_fits owners runners placed p a fits within inside none q = elim (cases_eq q.0 p.0) [
  | inl e ↦
      let here : get_or (set placed p.0 (Some a)) q.0 None ≡ Some a =
      ap (λ n. get_or (set placed p.0 (Some a)) n None) e ∙ get_or-set_same placed p.0 (Some a) None within in
      let owner : get_or (set owners p.0 (Some (space_of a))) q.0 None ≡ Some (space_of a) =
      ap (λ n. get_or (set owners p.0 (Some (space_of a))) n None) e ∙ get_or-set_same owners p.0 (Some (space_of a)) None inside in
      let idle : runner_at runners q ≡ None = ap (λ n. get_or runners n None) e ∙ none in
      record {
        owned = λ b is. owner ∙ ap (λ (c : ActNo). Some (space_of c)) (same_Some _ _ (sym here ∙ is));
        runs = λ x is. let both : None ≡ Some x = sym idle ∙ is in cc;
      }
  | inr ne ↦
      let there : get_or (set placed p.0 (Some a)) q.0 None ≡ get_or placed q.0 None = get_or-set_other placed p.0 q.0 (Some a) None ne in
      record {
        owned = λ b is. get_or-set_other owners p.0 q.0 (Some (space_of a)) None ne ∙ (fits q).owned b (sym there ∙ is);
        runs = λ x is. let old = (fits q).runs x is in (old.0, there ∙ old.1, old.2);
      }
]

module _ (w : WorkloadView) (v : Parts) (runners : List (Option Runner)) (h : Holds w v runners) (p : ProcNo) (inside : p.0 < w.processors)
    (free : get_or v.placed p.0 None ≡ None)
    (a : ActNo) (rest : List ActNo) (queue : v.queue ≡ a ∷ rest) where
  abbrev s : SpaceNo
  s = space_of a

  abbrev threads : ℕ → Option ThreadNo
  threads = threads_of v.lives

  abbrev owned' : State
  owned' = with_owner v.state p (Some s)

  abbrev pub places' : Option ThreadNo → Parts
  places' t = record v { state = placed_if owned' s t (places.Running p); queue = rest; placed = set v.placed p.0 (Some a) }

  none_runs : runner_at runners p ≡ None
  none_runs = elim (runner_at runners p) as (λ o. o ≡ runner_at runners p → o ≡ None) [
    | None ↦ λ is. refl
    | Some x ↦ λ is. let old = (h.fits p).runs x (sym is) in let both : None ≡ Some old.0 = sym free ∙ old.1 in cc
  ] refl

  pub nobody : NobodyRuns v.state p
  nobody = sym (index-finds p v.state.spaces runners h.replay.index) ∙ none_runs

  within : p.0 < length v.placed
  within = omega (arith, inside, h.processors)

  in_owners : p.0 < length v.state.owners
  in_owners = omega (arith, inside, h.owners)

  pub owns : owner_at owned' p ≡ Some s
  owns = get_or-set_same v.state.owners p.0 (Some s) None in_owners

  queue_holds : (r u : ℕ) → carried threads v.queue r u ≡ holds threads r u a + carried threads rest r u
  queue_holds r u = ap (λ q. carried threads q r u) queue ∙ sum_by-cons (holds threads r u) a rest

  once : AreOnce w rest (set v.placed p.0 (Some a)) v.ios
  once b =
      let old : one_where (is_one b (get_or v.placed p.0 None)) ≡ 0 = ap (λ (o : Option ActNo). one_where (is_one b o)) free in
      let q : in_queue v.queue b ≡ one_if a.0 b + in_queue rest b = ap (λ xs. in_queue xs b) queue ∙ unqueued rest a b in
      omega (arith, h.once b, q, placed_there v.placed p.0 (Some a) b within, old)

  replay : IsReplay w v.state.spaces (set v.state.owners p.0 (Some s)) runners
  replay = owner_kept w v.state.spaces v.state.owners runners h.replay p (Some s)

  fits : (q : ProcNo) → RunsForOwner (owner_at owned' q) (runner_at runners q) (get_or (set v.placed p.0 (Some a)) q.0 None)
  fits = place_fits v.state.owners runners v.placed p a h.fits within in_owners none_runs

  -- with a thread
  module _ (t : ThreadNo) (is : threads a.0 ≡ Some t) where
    pub place : place_in v.state.spaces s t ≡ places.Carried
    place =
        let one : holds threads s.0 t.0 a ≡ 1 = holds_some threads s.0 t.0 a t is ∙ at_self s.0 t.0 1 in
        is_carried (place_in v.state.spaces s t) (omega (arith, one, queue_holds s.0 t.0, (h.agree s.0 t.0).in_queue))

    there : s.0 < length v.state.spaces
    there = is_there v.state.spaces s t (λ e. let both : places.Carried ≡ places.Done = sym place ∙ e in cc)

    moves : Moves s.0 t.0 places.Carried (places.Running p) (counts_of w.processors threads v) (counts_of w.processors threads (places' (Some t)))
    moves = record {
      ready = λ r u. refl;
      carries = λ r u. omega (arith, queue_holds r u, holds_some threads r u a t is, at_none s.0 t.0 r u);
      blocks = λ r u. refl;
      works = λ r u. refl;
    }

    pub some_holds : Holds w (places' (Some t)) (set runners p.0 (Some (runner s t)))
    some_holds = record {
      replay =
          enter_kept w v.state.spaces owned'.owners runners replay p s t (settled_moves v.state.spaces s t places.Carried refl place) owns nobody
          (ap is_running place);
      owners = length-set v.state.owners p.0 (Some s) ∙ h.owners;
      sized = sized_put w v.state.spaces s t (places.Running p) there h.sized;
      within = within_put w v.state.spaces s t (places.Running p) there h.within;
      processors = length-set v.placed p.0 (Some a) ∙ h.processors;
      spaces = h.spaces;
      once = once;
      fits = λ q. record {
        owned = (fits q).owned;
        runs =
            λ x runs. entered runners (set v.placed p.0 (Some a)) p q (runner s t) a x (get_or-set_same v.placed p.0 (Some a) None within) refl runs
            (λ same. (fits q).runs x same);
      };
      lives = h.lives;
      ios = h.ios;
      agree =
          moved (counts_of w.processors threads v) (counts_of w.processors threads (places' (Some t))) v.state.spaces s t places.Carried
          (places.Running p) h.agree place (λ e. cc) moves;
    }

  pub none_holds : threads a.0 ≡ None → Holds w (places' None) runners
  none_holds is = record {
    replay = replay;
    owners = length-set v.state.owners p.0 (Some s) ∙ h.owners;
    sized = h.sized;
    within = h.within;
    processors = length-set v.placed p.0 (Some a) ∙ h.processors;
    spaces = h.spaces;
    once = once;
    fits = fits;
    lives = h.lives;
    ios = h.ios;
    agree = λ r u. let g = h.agree r u in record {
      in_lists = g.in_lists;
      in_queue = omega (arith, g.in_queue, queue_holds r u, holds_none threads r u a is);
      in_ios = g.in_ios;
      in_work = g.in_work;
    };
  }
