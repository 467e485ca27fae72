-- The laws of the opening, and of the kernel's events.
use Rattle.std.proofs.Common.{◌≡◌, ℕ, zero, suc, ◌+◌, ◌≤◌, ◌<◌, false, List, [], ◌∷◌, ◌++◌, map, length, cond, sum_by, count_by, replicate, Contains, Some, None, slice_get, slice_index_or, refl, sym, ap, ◌∙◌, subst, inl, inr, arith}
use Rattle.std.proofs.lemmas.List.{get_or-set_same, length-replicate}
use Rattle.std.proofs.lemmas.List.Sums.{sum_by-cons}
use Rattle.std.proofs.lemmas.Option.{same_Some, none-some}
use Rattle.std.specs.List.{range_with_len}
use Rattle.sa_base.specs.declared.limits.TheConstants.{MAX_THREADS}
use Rattle.sa_base.specs.declared.number.ProcNo.{ProcNo}
use Rattle.sa_base.specs.declared.number.ThreadNo.{ThreadNo}
use Rattle.sa_base.specs.declared.record.Note.TheVariants.{Preempted, Unblocked}
use Rattle.sa_base.specs.declared.record.Record.{Record}
use Rattle.sa_base.specs.declared.record.Record.TheVariants as records
use Rattle.sa_lemmas.proofs.ListReads.{all-same}
use Rattle.sa_lemmas.proofs.Membership.{contains-nil}
use Rattle.sa_spaces.specs.Workload.{WorkloadView, IsWorkload}
use Rattle.sa_assign.specs.Aims.{space_no}
use Rattle.sa_fast.specs.Rest.{one_where}
use Rattle.sa_fast.specs.Threads.{block_at, unmade, at_start, is_loaded, load_of as loaded}
use Rattle.sa_fast.specs.declared.threads.Block.{Block}
use Rattle.sa_fast.specs.declared.threads.KeptPlace.TheVariants as kept
use Rattle.sa_abstract.specs.Setting.{Setting, IsSetting}
use Rattle.sa_driven_model.specs.Step.{driven_calls, opened_shared}
use Rattle.sa_laws.specs.Any.{any, NamesHeard}
use Rattle.sa_laws.specs.Closing.{want_one}
use Rattle.sa_laws.specs.History.{event_begun, is_step}
use Rattle.sa_laws.specs.Opening.{opening_event}
use Rattle.sa_laws.specs.Readings.{Readings, untold_of, untold_thread, opening_readings}
use Rattle.sa_laws.specs.State.{space_at, thread_in, active_threads, opening_state, opening_space}
use Rattle.sa_user_laws.specs.Moments.{IsMoment}
use Rattle.sa_user_laws.specs.Scene.{IsOfSpace}
use Rattle.sa_user_laws.specs.Steps.{event_with, IsClosed, RulesPass, AreKernels}
use Rattle.sa_fast_laws.proofs.lives.KernelEvents.{kernels-are}
use Rattle.sa_fast_laws.proofs.relation.Places.{loaded-with}
use Rattle.sa_fast_laws.specs.FastFits.{is_of, FitsShared, FitsThread}
use Rattle.sa_driven_laws.specs.DrivenFits.{Holds, driven_fits}

-- an event that is no step names nobody
no-names : (r : Readings) (x : Record) (xs : List Record) → is_step x ≡ false → NamesHeard r (x ∷ xs)
no-names r (records.Ready s t) xs e = absurd cc
no-names r (records.Cont s t) xs e = absurd cc
no-names r _ xs e = tt

pub driven-kernels : (w : WorkloadView) (r : Readings) (e : ℕ) (p : ProcNo) (own closing : List Record) → IsWorkload w → IsMoment r → AreKernels own
    → IsClosed own closing → RulesPass any w r (event_with e p own closing)
driven-kernels w r e p own closing ok moment are closed =
    let k = kernels-are own are in
    let r0 = event_begun w (event_with e p own closing) r in
    record {
      demand = tt;
      locks = record { heard = subst (λ xs. NamesHeard r0 (xs ++ closing)) (sym k.is) (no-names r0 k.first (k.rest ++ closing) k.step) };
      order = tt;
    }

pub driven-opening : (w : WorkloadView) → IsWorkload w → RulesPass any w (opening_readings w) (opening_event w)
driven-opening w ok = record {
  demand = tt;
  locks = record { heard = by (length w.spaces) _ ok.some_space };
  order = tt;
} where
  by : (k : ℕ) (rest : List Record) → 1 ≤ k
      → NamesHeard (event_begun w (opening_event w) (opening_readings w)) (map want_one (map space_no (range_with_len 0 k)) ++ rest)
  by zero rest some = absurd (omega (arith, some))
  by (suc k) rest some = tt

map_read : {A B : Type 0} (f : A → B) (xs : List A) (i : ℕ) (x : A) (d : B) → slice_get xs i ≡ Some x → slice_index_or (map f xs) i d ≡ f x
map_read f [] i x d e = absurd (none-some x e)
map_read f (y ∷ xs) zero x d e = ap f (same_Some y x e)
map_read f (y ∷ xs) (suc i) x d e = map_read f xs i x d e

none_loaded : (n : ℕ) → loaded (replicate n unmade) ≡ 0
none_loaded zero = refl
none_loaded (suc n) = sum_by-cons (λ (z : Block). cond (is_loaded z.place) 1 0) unmade (replicate n unmade)
    ∙ (let rest = none_loaded n in let sum : 0 + loaded (replicate n unmade) ≡ 0 = omega (arith, rest) in sum)

module _ (w : WorkloadView) (s : Setting) (of : IsOfSpace w s) where
  space_is : space_at (opening_state w) s.space ≡ opening_space s.def
  space_is = map_read opening_space w.spaces s.space.0 s.def _ of.def

  many : 0 < length (replicate MAX_THREADS unmade)
  many = let all = length-replicate MAX_THREADS unmade in omega (arith, all)

  first-block : block_at (opened_shared s.space s.def).threads 0 ≡ at_start 0 kept.Ready
  first-block = get_or-set_same (replicate MAX_THREADS unmade) 0 (at_start 0 kept.Ready) unmade many

  first-is : (t : ThreadNo) → t.0 < 1 → t ≡ record { 0 = 0 }
  first-is t less = let same : t.0 ≡ 0 = omega (arith, less) in ap (λ n. record { 0 = n }) same

  opening-holds : Holds s.space (opening_readings w) (opened_shared s.space s.def) (λ a. None)
  opening-holds = record {
    space = subst (FitsShared (opened_shared s.space s.def)) (sym space_is) (record {
      made = refl;
      threads =
          λ t less. subst (λ (z : ThreadNo). FitsThread (block_at (opened_shared s.space s.def).threads z.0) (thread_in (opening_space s.def) z))
          (sym (first-is t less))
          (subst (λ b. FitsThread b (thread_in (opening_space s.def) (record { 0 = 0 }))) (sym first-block)
          (record { program = refl; pc = refl; regs = refl; place = refl }));
      sync = refl;
    });
    load =
        let active : active_threads (space_at (opening_state w) s.space) ≡ 1 = ap active_threads space_is in
        let untold : sum_by (untold_thread (opening_readings w)) (untold_of (opening_readings w) s.space) ≡ 0 =
        ap (sum_by (untold_thread (opening_readings w))) (all-same (length w.spaces) s.space.0 []) in
        let one = loaded-with (replicate MAX_THREADS unmade) 0 (at_start 0 kept.Ready) many in
        let none = none_loaded MAX_THREADS in
        let old : block_at (replicate MAX_THREADS unmade) 0 ≡ unmade = all-same MAX_THREADS 0 unmade in
        let zero_is : one_where (is_loaded (block_at (replicate MAX_THREADS unmade) 0).place) ≡ 0 =
        ap (λ (z : Block). one_where (is_loaded z.place)) old in
        omega arith;
    lives = λ a c at. absurd cc;
    others = λ a life at mine none. absurd cc;
    noted = λ a there. elim there [
      | inl stop ↦ absurd (contains-nil (Preempted a) (subst (λ ns. Contains ns (Preempted a)) (all-same (length w.spaces) s.space.0 []) stop))
      | inr back ↦ absurd (contains-nil (Unblocked a) (subst (λ ns. Contains ns (Unblocked a)) (all-same (length w.spaces) s.space.0 []) back))
    ];
    single = λ a. subst (λ ns. count_by (is_of a) ns ≤ 1) (sym (all-same (length w.spaces) s.space.0 [])) (omega arith);
    runs = λ p a life at its mine. absurd cc;
  }

pub driven-starts : (w : WorkloadView) (s : Setting) → IsOfSpace w s → IsSetting s → driven_fits w s (opening_readings w) (driven_calls.started s) (λ a. None)
driven-starts w s of set = record { holds = opening-holds w s of; rest = λ a c life at its. absurd cc }
