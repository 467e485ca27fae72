-- The law of the opening.
use Rattle.std.proofs.Common.{◌≡◌, ℕ, zero, suc, ◌<◌, Bool, true, false, cond, [], ◌∷◌, None, Contains, replicate, length, length-set, slice_set, slice_index_or, refl, sym, ap, ◌∙◌, subst, arith}
use Rattle.std.proofs.lemmas.List.{length-replicate}
use Rattle.sa_base.specs.declared.limits.TheConstants.{MAX_THREADS}
use Rattle.sa_base.specs.declared.number.ThreadNo.{ThreadNo}
use Rattle.sa_spaces.specs.Workload.{WorkloadView}
use Rattle.sa_lists.specs.ReadyView.{rank_of}
use Rattle.sa_lists.specs.declared.ranks.Ranks.TheVariants.{Many}
use Rattle.sa_fast.specs.Threads.{block_at}
use Rattle.sa_fast.specs.declared.threads.Block.{Block}
use Rattle.sa_abstract.specs.Setting.{Setting, IsSetting}
use Rattle.sa_package_model.specs.Step.{started_with}
use Rattle.sa_laws.specs.Readings.{Listed, opening_readings, first_listed}
use Rattle.sa_user_laws.specs.Scene.{IsOfSpace}
use Rattle.sa_fast_laws.proofs.lives.Openings.{opening-holds, opening-ready, first-block, first-is}
use Rattle.sa_prio_model.specs.Step.{prio_calls}
use Rattle.sa_prio_laws.specs.PrioFits.{prio_fits}
use Rattle.sa_prio_laws.specs.Ready.{FitsRanked}

-- a list of zeros has rank 0 for thread 0, whether that is set or not
zeros : (n : ℕ) (b : Bool) → rank_of (cond b (slice_set (replicate n 0) 0 0) (replicate n 0)) 0 ≡ 0
zeros zero true = refl
zeros zero false = refl
zeros (suc n) true = refl
zeros (suc n) false = refl

as-many : (n : ℕ) (b : Bool) → length {A = ℕ} (cond b (slice_set (replicate n 0) 0 0) (replicate n 0)) ≡ n
as-many n true = length-set {A = ℕ} (replicate n 0) 0 0 ∙ length-replicate {A = ℕ} n 0
as-many n false = length-replicate {A = ℕ} n 0

first-alone : (x : Listed) → Contains (first_listed ∷ []) x → x.list.0 ≡ 0
first-alone x has = by has.0 has.1 has.2 where
  by : (k : ℕ) → k < length (first_listed ∷ []) → slice_index_or (first_listed ∷ []) k x ≡ x → x.list.0 ≡ 0
  by zero below is = ap (λ (y : Listed). y.list.0) (sym is)
  by (suc i) below is = absurd (omega arith)

pub prio-starts : (w : WorkloadView) (s : Setting) → IsOfSpace w s → IsSetting s
    → prio_fits w s (opening_readings w) (prio_calls.started s) (λ a. None)
prio-starts w s of set = record {
  lives = record { holds = opening-holds Many w s of; rest = λ a c life at its. absurd cc };
  ranked = subst (FitsRanked (started_with Many s)) (sym (opening-ready Many w s of)) (record {
    one = refl;
    many = as-many MAX_THREADS true;
    there = first-alone;
    order = refl;
    ranks = λ t made. ap (λ (z : ThreadNo). rank_of (started_with Many s).shared.state.lists.ranks z.0) (first-is Many w s of t made)
        ∙ zeros MAX_THREADS true
        ∙ sym (ap (λ (b : Block). b.program) (first-block Many w s of))
        ∙ sym (ap (λ (z : ThreadNo). (block_at (started_with Many s).shared.threads z.0).program) (first-is Many w s of t made));
  });
  on = λ q a c at mine. absurd cc;
}
