-- What always holds of a replay is kept by each change.
use Rattle.std.proofs.Common.{◌≡◌, ℕ, zero, suc, ◌<◌, true, false, ◌&&◌, ◌||◌, ◌==◌, List, length, get_or, set, map, replicate, Option, Some, None, inl, inr, refl, sym, ap, subst, ◌∙◌, arith}
use Rattle.std.proofs.lemmas.Bool.{cases_lt}
use Rattle.std.proofs.lemmas.List.{length-set, length-map, length-replicate, get_or_past, get_or-map}
use Rattle.sa_base.specs.declared.number.ProcNo.{ProcNo}
use Rattle.sa_base.specs.declared.number.SpaceNo.{SpaceNo}
use Rattle.sa_base.specs.declared.number.ThreadNo.{ThreadNo}
use Rattle.sa_spaces.specs.Space.{SpaceView}
use Rattle.sa_spaces.specs.Workload.{WorkloadView}
use Rattle.sa_sync.specs.Sync.{Mutex, free_mutex, semaphore_of, waits_of}
use Rattle.sa_laws.specs.declared.place.Place.{Place}
use Rattle.sa_laws.specs.declared.place.Place.TheVariants as places
use Rattle.sa_laws.specs.State.{Thread, SpaceState, Runner, thread_in, put_thread, no_space, is_waiting, owner_at, runner_on, runner_of, runner_from, opening_space, no_threads}
use Rattle.sa_replay.specs.Running.{is_running, is_settled, can_move, HasDeclared}
use Rattle.sa_replay.specs.Shape.{IsShaped}
use Rattle.sa_replay.proofs.ShapeLemmas.{at_rest, was_made, own_after, other_runs, other_ran, stays_declared}
use Rattle.sa_replay.specs.Spaces.{space_in, with_space_in, place_in, run_of, HasRun}
use Rattle.sa_laws.specs.Step.{IsRunner, NobodyRuns}
use Rattle.sa_replay.specs.Replayed.{Replayed}
use Rattle.sa_replay.specs.Needs.{CanGo, CanPut}
use Rattle.sa_replay.specs.Index.{runner_at}
use Rattle.sa_replay.specs.Inside.{AreDeclared, IsReplay}
use Rattle.sa_replay.proofs.IndexLemmas.{runner, runs_within, index-stays, index-leaves, index-enters, index-finds, OthersRun}
use Rattle.sa_replay.proofs.ChangeLemmas.{is_there, own_place, others_run, declared-set, placed_others, placed_own, placed_declared}

-- a thread that runs can be put elsewhere
pub runs_moves : (spaces : List SpaceState) (s : SpaceNo) (t : ThreadNo) (p : ProcNo) → place_in spaces s t ≡ places.Running p
    → can_move (space_in spaces s) t ≡ true
runs_moves spaces s t p runs = ap (λ (place : Place). is_settled place || (is_waiting place && waits_of (space_in spaces s).sync t.0 == 0)) runs

module _ (w : WorkloadView) (spaces : List SpaceState) (owners : List (Option SpaceNo)) (runners : List (Option Runner))
    (kept : IsReplay w spaces owners runners) where
  -- the runner of a processor runs there
  pub runner_runs : (p : ProcNo) (s : SpaceNo) (t : ThreadNo) → runner_from p 0 spaces ≡ Some (runner s t) → place_in spaces s t ≡ places.Running p
  runner_runs p s t is = kept.index.there p s t (index-finds p spaces runners kept.index ∙ is)

  owned_within : (p : ProcNo) (s : SpaceNo) → get_or owners p.0 None ≡ Some s → p.0 < length runners
  owned_within p s owned = elim (cases_lt p.0 (length owners)) [
    | inl within ↦ omega (arith, kept.processors, within)
    | inr past ↦ let none : get_or owners p.0 None ≡ None = get_or_past owners p.0 None past in let both : None ≡ Some s = sym none ∙ owned in cc
  ]

  module _ (s : SpaceNo) (t : ThreadNo) (place : Place) (can : can_move (space_in spaces s) t ≡ true) where
    -- a thread leaves its processor
    pub leave_kept : (p : ProcNo) → place_in spaces s t ≡ places.Running p → is_running place ≡ false
        → IsReplay w (with_space_in spaces s (put_thread place (space_in spaces s) t)) owners (set runners p.0 None)
    leave_kept p runs rests = record {
      as_many = length-set spaces s.0 (put_thread place (space_in spaces s) t) ∙ kept.as_many;
      declared = placed_declared spaces s t place can w.spaces kept.declared;
      processors = length-set runners p.0 None ∙ kept.processors;
      index =
          index-leaves s t _ _ runners (placed_others spaces s t place can) kept.index p runs
          (λ q is. at_rest place q rests (sym (placed_own spaces s t place can) ∙ is));
    }

    -- a thread that runs nowhere is put where it runs nowhere
    pub put_kept : is_running (place_in spaces s t) ≡ false → is_running place ≡ false
        → IsReplay w (with_space_in spaces s (put_thread place (space_in spaces s) t)) owners runners
    put_kept rested rests = record {
      as_many = length-set spaces s.0 (put_thread place (space_in spaces s) t) ∙ kept.as_many;
      declared = placed_declared spaces s t place can w.spaces kept.declared;
      processors = kept.processors;
      index = index-stays s t _ _ runners (placed_others spaces s t place can) kept.index
          (λ q is. absurd (at_rest place q rests (sym (placed_own spaces s t place can) ∙ is)))
          (λ q is. absurd (at_rest (place_in spaces s t) q rested is));
    }

  -- a thread that runs nowhere comes to run on a processor where none runs
  pub enter_kept : (p : ProcNo) (s : SpaceNo) (t : ThreadNo) → can_move (space_in spaces s) t ≡ true → get_or owners p.0 None ≡ Some s
      → runner_from p 0 spaces ≡ None → is_running (place_in spaces s t) ≡ false
      → IsReplay w (with_space_in spaces s (put_thread (places.Running p) (space_in spaces s) t)) owners (set runners p.0 (Some (runner s t)))
  enter_kept p s t can owned nobody rested = record {
    as_many = length-set spaces s.0 (put_thread (places.Running p) (space_in spaces s) t) ∙ kept.as_many;
    declared = placed_declared spaces s t (places.Running p) can w.spaces kept.declared;
    processors = length-set runners p.0 (Some (runner s t)) ∙ kept.processors;
    index = index-enters s t _ _ runners (placed_others spaces s t (places.Running p) can) kept.index p (owned_within p s owned)
        (index-finds p spaces runners kept.index ∙ nobody) (λ q is. at_rest (place_in spaces s t) q rested is) (placed_own spaces s t (places.Running p) can);
  }

  -- a thread runs its next instruction
  module _ (p : ProcNo) (s : SpaceNo) (t : ThreadNo) (x : SpaceState) (runs : place_in spaces s t ≡ places.Running p)
      (shape : IsShaped (space_in spaces s) t (place_in spaces s t) x) where
    within : s.0 < length spaces
    within = is_there spaces s t (λ done. let both : places.Done ≡ places.Running p = sym done ∙ runs in cc)

    made : t.0 < length (space_in spaces s).threads
    made = was_made (space_in spaces s) t (λ done. let both : places.Done ≡ places.Running p = sym done ∙ runs in cc)

    others : OthersRun s t (place_in spaces) (place_in (with_space_in spaces s x))
    others = others_run spaces s t x within
        (λ u q other is. other_runs (space_in spaces s) t (place_in spaces s t) x shape u q other is)
        (λ u q other is. other_ran (space_in spaces s) t (place_in spaces s t) x shape u q other is)

    own : place_in (with_space_in spaces s x) s t ≡ shape.after.place
    own = own_place spaces s t x within ∙ ap (λ (y : Thread). y.place) (own_after (space_in spaces s) t (place_in spaces s t) x shape made)

    declared : AreDeclared w.spaces (with_space_in spaces s x)
    declared =
        declared-set spaces s t x within w.spaces kept.declared
        (stays_declared (space_in spaces s) t (place_in spaces s t) x shape (get_or w.spaces s.0 no_space))

    pub go_kept : is_running (place_in (with_space_in spaces s x) s t) ≡ true → IsReplay w (with_space_in spaces s x) owners runners
    go_kept goes =
        let same : place_in (with_space_in spaces s x) s t ≡ place_in spaces s t = elim shape.goes [
          | inl stays ↦ own ∙ stays
          | inr rests ↦ let both : true ≡ false = sym goes ∙ ap is_running own ∙ rests in cc
        ] in
        record {
          as_many = length-set spaces s.0 x ∙ kept.as_many;
          declared = declared;
          processors = kept.processors;
          index = index-stays s t _ _ runners others kept.index (λ q is. sym same ∙ is) (λ q is. same ∙ is);
        }

    pub stop_kept : is_running (place_in (with_space_in spaces s x) s t) ≡ false → IsReplay w (with_space_in spaces s x) owners (set runners p.0 None)
    stop_kept rests = record {
      as_many = length-set spaces s.0 x ∙ kept.as_many;
      declared = declared;
      processors = length-set runners p.0 None ∙ kept.processors;
      index = index-leaves s t _ _ runners others kept.index p runs (λ q is. at_rest (place_in (with_space_in spaces s x) s t) q rests is);
    }

  -- as it is known of a run
  module _ (p : ProcNo) (s : SpaceNo) (t : ThreadNo) (def : SpaceView) (new : List SpaceState) (roused : List ThreadNo)
      (runs : place_in spaces s t ≡ places.Running p) (ran : HasRun spaces def s t new roused) where
    pub still_runs : is_running (place_in new s t) ≡ true → IsReplay w new owners runners
    still_runs goes =
        subst (λ (xs : List SpaceState). IsReplay w xs owners runners) (sym ran.spaces)
        (go_kept p s t (run_of def (space_in spaces s) t).space runs ran.shape
        (subst (λ (xs : List SpaceState). is_running (place_in xs s t) ≡ true) ran.spaces goes))

    pub goes_off : is_running (place_in new s t) ≡ false → IsReplay w new owners (set runners p.0 None)
    goes_off rests =
        subst (λ (xs : List SpaceState). IsReplay w xs owners (set runners p.0 None)) (sym ran.spaces)
        (stop_kept p s t (run_of def (space_in spaces s) t).space runs ran.shape
        (subst (λ (xs : List SpaceState). is_running (place_in xs s t) ≡ false) ran.spaces rests))

  -- another owner
  pub owner_kept : (p : ProcNo) (owner : Option SpaceNo) → IsReplay w spaces (set owners p.0 owner) runners
  owner_kept p owner = record {
    as_many = kept.as_many;
    declared = kept.declared;
    processors = kept.processors ∙ sym (length-set owners p.0 owner);
    index = kept.index;
  }

-- what is known of a replay is known of its value
module _ (w : WorkloadView) (spaces : List SpaceState) (owners : List (Option SpaceNo)) (runners : List (Option Runner)) (roused : List ThreadNo)
    (kept : IsReplay w spaces owners runners)
    (v : Replayed) (view : let x : Replayed = record { workload = w; state = record { spaces = spaces; owners = owners }; roused = roused } in x ≡ v)
    (p : ProcNo) (s : SpaceNo) where
  pub leave_runs : (o : Option ThreadNo) (t : ThreadNo) → IsRunner v.state p s o → o ≡ Some t → place_in spaces s t ≡ places.Running p
  leave_runs o t runs is =
      runner_runs w spaces owners runners kept p s t (ap (λ (x : Replayed). runner_on x.state p) view ∙ runs ∙ ap (λ (q : Option ThreadNo). runner_of s q) is)

  pub listed_within : (t : ThreadNo) → place_in spaces s t ≡ places.Running p → p.0 < length runners
  listed_within t runs = runs_within runners p (runner s t) (kept.index.listed p s t runs)

  pub put_can : (o : Option ThreadNo) (t : ThreadNo) → CanPut v.state s o → o ≡ Some t
      → (is_running (place_in spaces s t) ≡ false) × (can_move (space_in spaces s) t ≡ true)
  put_can o t can is =
      let at : CanPut v.state s (Some t) = subst (λ (q : Option ThreadNo). CanPut v.state s q) is can in
      subst (λ (x : Replayed). (is_running (place_in x.state.spaces s t) ≡ false) × (can_move (space_in x.state.spaces s) t ≡ true)) (sym view) at

  pub owned_here : owner_at v.state p ≡ Some s → get_or owners p.0 None ≡ Some s
  owned_here owned = ap (λ (x : Replayed). owner_at x.state p) view ∙ owned

  pub nobody_here : NobodyRuns v.state p → runner_from p 0 spaces ≡ None
  nobody_here nobody = ap (λ (x : Replayed). runner_on x.state p) view ∙ nobody

  pub go_runs : (t : ThreadNo) → CanGo v.workload p v.state s t → place_in spaces s t ≡ places.Running p
  go_runs t go = ap (λ (x : Replayed). place_in x.state.spaces s t) view ∙ go.runs

-- at the opening nobody runs
first_rests : (def : SpaceView) (t : ℕ) (p : ProcNo) → (thread_in (opening_space def) (record { 0 = t })).place ≡ places.Running p → ⊥
first_rests def zero p runs = let both : places.Ready ≡ places.Running p = runs in cc
first_rests def (suc t) p runs = let both : places.Done ≡ places.Running p = runs in cc

get_or-replicate : (n i : ℕ) → get_or {A = Option Runner} (replicate n None) i None ≡ None
get_or-replicate (suc n) (suc i) = get_or-replicate n i
get_or-replicate _ _ = refl

-- and each space has what the workload declares
opening_has : (def : SpaceView) → HasDeclared def (opening_space def).sync
opening_has def = record {
  mutexes = length-replicate {A = Mutex} def.mutexes free_mutex;
  semaphores = length-map def.sems semaphore_of;
  cells = length-replicate {A = ℕ} def.cells 0;
}

opening_declared : (defs : List SpaceView) (k : ℕ) → k < length defs → HasDeclared (get_or defs k no_space) (get_or (map opening_space defs) k no_threads).sync
opening_declared defs k below =
    subst (λ (x : SpaceState). HasDeclared (get_or defs k no_space) x.sync) (sym (get_or-map opening_space defs k no_space no_threads below))
    (opening_has (get_or defs k no_space))

opening_rests : (defs : List SpaceView) (s : SpaceNo) (t : ThreadNo) (p : ProcNo) → place_in (map opening_space defs) s t ≡ places.Running p → ⊥
opening_rests defs s t p runs = elim (cases_lt s.0 (length defs)) [
  | inl within ↦
      let at : space_in (map opening_space defs) s ≡ opening_space (get_or defs s.0 no_space) = get_or-map opening_space defs s.0 no_space no_threads within in
      first_rests (get_or defs s.0 no_space) t.0 p (sym (ap (λ (x : SpaceState). (thread_in x t).place) at) ∙ runs)
  | inr past ↦
      let at : space_in (map opening_space defs) s ≡ no_threads =
      get_or_past (map opening_space defs) s.0 no_threads (omega (arith, length-map defs opening_space, past)) in
      let both : places.Done ≡ places.Running p = sym (ap (λ (x : SpaceState). (thread_in x t).place) at) ∙ runs in cc
]

free : (n : ℕ) (p : ProcNo) (x : Runner) → runner_at (replicate n None) p ≡ Some x → ⊥
free n p x is = let none = get_or-replicate n p.0 in let both : None ≡ Some x = sym none ∙ is in cc

pub opening_kept : (w : WorkloadView) → IsReplay w (map opening_space w.spaces) (replicate w.processors None) (replicate w.processors None)
opening_kept w = record {
  as_many = length-map w.spaces opening_space;
  declared = λ k below. opening_declared w.spaces k (omega (arith, length-map w.spaces opening_space, below));
  processors = length-replicate {A = Option Runner} w.processors None ∙ sym (length-replicate {A = Option SpaceNo} w.processors None);
  index = record {
    listed = λ p s t runs. absurd (opening_rests w.spaces s t p runs);
    there = λ p s t is. absurd (free w.processors p (runner s t) is);
  };
}

pub opened_kept : (w v : WorkloadView) (spaces : List SpaceState) (owners : List (Option SpaceNo)) (runners : List (Option Runner)) → v ≡ w
    → spaces ≡ map opening_space w.spaces → owners ≡ replicate w.processors None → runners ≡ replicate w.processors None
    → IsReplay v spaces owners runners
opened_kept w v spaces owners runners same first unowned idle =
    subst (λ (u : WorkloadView). IsReplay u spaces owners runners) (sym same)
    (subst (λ (xs : List SpaceState). IsReplay w xs owners runners) (sym first)
    (subst (λ (os : List (Option SpaceNo)). IsReplay w (map opening_space w.spaces) os runners) (sym unowned)
    (subst (λ (rs : List (Option Runner)). IsReplay w (map opening_space w.spaces) (replicate w.processors None) rs) (sym idle) (opening_kept w))))
