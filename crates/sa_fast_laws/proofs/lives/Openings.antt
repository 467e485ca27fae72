-- At the opening a space has one thread, which is ready, and no life.
use Rattle.std.proofs.Common.{◌≡◌, ℕ, ◌+◌, List, [], ◌∷◌, map, Some, None, slice_get, slice_index_or, refl, sym, ap, ◌∙◌, subst, inl, inr, arith, zero, suc, ◌<◌, sum_by, Contains, count_by, replicate}
use Rattle.std.specs.Prelude.{length, ◌≤◌, cond}
use Rattle.std.proofs.lemmas.List.{get_or-set_same, get_or-replicate, length-replicate}
use Rattle.std.proofs.lemmas.List.Sums.{sum_by-cons}
use Rattle.std.proofs.lemmas.Option.{same_Some, none-some, slice_get_within}
use Rattle.sa_lemmas.proofs.Membership.{contains-nil}
use Rattle.sa_base.specs.declared.limits.TheConstants.{MAX_THREADS}
use Rattle.sa_base.specs.declared.number.ThreadNo.{ThreadNo}
use Rattle.sa_base.specs.declared.record.Note.TheVariants.{Preempted, Unblocked}
use Rattle.sa_spaces.specs.Workload.{WorkloadView}
use Rattle.sa_lemmas.proofs.ListReads.{all-same}
use Rattle.sa_lists.specs.declared.ranks.Ranks.{Ranks}
use Rattle.sa_fast.specs.Rest.{one_where}
use Rattle.sa_fast.specs.Threads.{block_at, unmade, at_start, is_loaded, load_of as loaded}
use Rattle.sa_fast.specs.declared.threads.Block.{Block}
use Rattle.sa_fast.specs.declared.threads.KeptPlace.TheVariants as kept
use Rattle.sa_abstract.specs.Setting.{Setting}
use Rattle.sa_package_model.specs.Step.{started_with}
use Rattle.sa_laws.specs.Readings.{untold_of, ready_of, untold_thread, opening_readings, first_listed}
use Rattle.sa_laws.specs.State.{space_at, thread_in, active_threads, opening_state, opening_space}
use Rattle.sa_user_laws.specs.Scene.{IsOfSpace}
use Rattle.sa_fast_laws.proofs.relation.Places.{loaded-with}
use Rattle.sa_fast_laws.specs.FastFits.{is_of, FitsShared, FitsThread, Holds}

map_read : {A B : Type 0} (f : A → B) (xs : List A) (i : ℕ) (x : A) (d : B) → slice_get xs i ≡ Some x → slice_index_or (map f xs) i d ≡ f x
map_read f [] i x d e = absurd (none-some x e)
map_read f (y ∷ xs) zero x d e = ap f (same_Some y x e)
map_read f (y ∷ xs) (suc i) x d e = map_read f xs i x d e

none_loaded : (n : ℕ) → loaded (replicate n unmade) ≡ 0
none_loaded zero = refl
none_loaded (suc n) = sum_by-cons (λ (z : Block). cond (is_loaded z.place) 1 0) unmade (replicate n unmade)
    ∙ (let rest = none_loaded n in let sum : 0 + loaded (replicate n unmade) ≡ 0 = omega arith in sum)

module _ (ranks : Ranks) (w : WorkloadView) (s : Setting) (of : IsOfSpace w s) where
  below : s.space.0 < length w.spaces
  below = slice_get_within w.spaces s.space.0 s.def of.def

  space_is : space_at (opening_state w) s.space ≡ opening_space s.def
  space_is = map_read opening_space w.spaces s.space.0 s.def _ of.def

  many : 0 < length (replicate MAX_THREADS unmade)
  many = let all = length-replicate MAX_THREADS unmade in omega arith

  -- its first thread, in the package
  pub first-block : block_at (started_with ranks s).shared.threads 0 ≡ at_start 0 kept.Ready
  first-block = get_or-set_same (replicate MAX_THREADS unmade) 0 (at_start 0 kept.Ready) unmade many

  pub first-is : (t : ThreadNo) → t.0 < 1 → t ≡ record { 0 = 0 }
  first-is t less = let same : t.0 ≡ 0 = omega arith in ap (λ n. record { 0 = n }) same

  -- the one that is ready
  pub opening-ready : ready_of (opening_readings w) s.space ≡ first_listed ∷ []
  opening-ready = get_or-replicate (length w.spaces) s.space.0 (first_listed ∷ []) [] below

  pub opening-holds : Holds s.space (opening_readings w) (started_with ranks s) (λ a. None)
  opening-holds = record {
    space = subst (FitsShared (started_with ranks s).shared) (sym space_is) (record {
      made = refl;
      threads =
          λ t less. subst (λ (z : ThreadNo). FitsThread (block_at (started_with ranks s).shared.threads z.0) (thread_in (opening_space s.def) z))
          (sym (first-is t less))
          (subst (λ b. FitsThread b (thread_in (opening_space s.def) (record { 0 = 0 }))) (sym first-block)
          (record { program = refl; pc = refl; regs = refl; place = refl }));
      sync = refl;
    });
    load =
        let active : active_threads (space_at (opening_state w) s.space) ≡ 1 = ap active_threads space_is in
        let untold : sum_by (untold_thread (opening_readings w)) (untold_of (opening_readings w) s.space) ≡ 0 =
        ap (sum_by (untold_thread (opening_readings w))) (all-same (length w.spaces) s.space.0 []) in
        let one = loaded-with (replicate MAX_THREADS unmade) 0 (at_start 0 kept.Ready) many in
        let none = none_loaded MAX_THREADS in
        let old : block_at (replicate MAX_THREADS unmade) 0 ≡ unmade = all-same MAX_THREADS 0 unmade in
        let zero_is : one_where (is_loaded (block_at (replicate MAX_THREADS unmade) 0).place) ≡ 0 =
        ap (λ (z : Block). one_where (is_loaded z.place)) old in
        omega arith;
    lives = λ a c at. absurd cc;
    others = λ a life at mine none. absurd cc;
    noted = λ a there. elim there [
      | inl stop ↦ absurd (contains-nil (Preempted a) (subst (λ ns. Contains ns (Preempted a)) (all-same (length w.spaces) s.space.0 []) stop))
      | inr back ↦ absurd (contains-nil (Unblocked a) (subst (λ ns. Contains ns (Unblocked a)) (all-same (length w.spaces) s.space.0 []) back))
    ];
    single = λ a. subst (λ ns. count_by (is_of a) ns ≤ 1) (sym (all-same (length w.spaces) s.space.0 [])) (omega arith);
    runs = λ p a life at its mine. absurd cc;
  }
