-- Turns that lead to a machine reach it within the most events.
use Rattle.std.proofs.Common.{ℕ, suc, ◌+◌, List, [], ◌∷◌, length, refl, sym, subst, arith}
use Rattle.sa_base.specs.declared.limits.TheConstants.{MAX_EVENTS}
use Rattle.sa_base.specs.declared.number.ProcNo.{ProcNo}
use Rattle.sa_spaces.specs.Workload.{WorkloadView}
use Rattle.sa_abstract.specs.Calls.{Calls}
use Rattle.sa_core_model.specs.Machine.{Machine}
use Rattle.sa_core_model.specs.Run.{opening}
use Rattle.sa_outlook.specs.Search.{AreOpenTurns}
use Rattle.sa_debug.specs.Reached.{Reaches}
use Rattle.sa_explore_runs.specs.Runs.{LeadTo}
use Rattle.sa_explore_runs.proofs.Ends.{not-ended}
use Rattle.sa_explore_runs.proofs.Turns.{over-open}

module _ {U C : Type 0} (f : Calls U C) (w : WorkloadView) where
  reach-more : (ps : List ProcNo) (n : ℕ) (m after : Machine U C) → Reaches f w MAX_EVENTS n m → AreOpenTurns f ps m after
      → Reaches f w MAX_EVENTS (n + length ps) after
  reach-more [] n m after reached same =
      subst (λ (k : ℕ). Reaches f w MAX_EVENTS k after) (omega arith) (subst (λ (z : Machine U C). Reaches f w MAX_EVENTS n z) (sym same) reached)
  reach-more (p ∷ ps) n m after reached turns =
      let none = not-ended f MAX_EVENTS m (over-open f m turns.1) turns.2.event in
      subst (λ (k : ℕ). Reaches f w MAX_EVENTS k after) (omega arith)
      (reach-more ps (suc n) turns.0 after (m, p, reached, none, (turns.2, turns.3)) turns.4)

  pub lead-reaches : (turns : List ProcNo) (m : Machine U C) → LeadTo f w turns m → Reaches f w MAX_EVENTS (length turns) m
  lead-reaches turns m lead = subst (λ (k : ℕ). Reaches f w MAX_EVENTS k m) (omega arith) (reach-more turns 0 (opening f w) m refl lead)
