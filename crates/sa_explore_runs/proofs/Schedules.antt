-- Turns that lead to a machine can be made anew, whichever numbers are handed out, and lead to machines that end alike.
use Rattle.std.proofs.Common.{◌≡◌, ℕ, ◌+◌, ◌<◌, ◌≤◌, Option, None, List, [], ◌∷◌, ◌++◌, length, take, drop, sym, subst, ◌∙◌, arith, length-drop}
use Rattle.std.proofs.lemmas.List.{take-append-drop}
use Rattle.std.proofs.lemmas.List.Elements.{All-cons}
use Rattle.std.specs.Prelude.{All}
use Rattle.sa_base.specs.declared.limits.TheConstants.{MAX_EVENTS}
use Rattle.sa_base.specs.declared.number.ProcNo.{ProcNo}
use Rattle.sa_spaces.specs.Space.{SpaceView}
use Rattle.sa_spaces.specs.Workload.{WorkloadView, IsWorkload}
use Rattle.sa_abstract.specs.Calls.{Calls}
use Rattle.sa_abstract.specs.Keeps.{Standing, Keeps}
use Rattle.sa_core_model.specs.Machine.{Machine}
use Rattle.sa_core_model.specs.Run.{opening}
use Rattle.sa_outlook.specs.UserLevels.{IgnoresNumbers}
use Rattle.sa_outlook.specs.Search.{AreOpenTurns}
use Rattle.sa_explore_runs.specs.Runs.{end, LeadTo, IsOpen, CanBeRun}
use Rattle.sa_explore_runs.proofs.Turns.{over-open, turns-split, IsOf, of-opening, of-one, of-lead, ends-alike, leads-alike}

module _ {U C D : Type 0} (f : Calls U C) (plain : Option SpaceView → C → D) (IsMade : Option SpaceView → U → Type 0) (laws : IgnoresNumbers f plain IsMade)
    (stands : Standing U C) (keep : Keeps f stands) (w : WorkloadView) (ok : IsWorkload w) where
  -- runs of the same turns end alike
  pub same-end : (turns : List ProcNo) (m n : Machine U C) → LeadTo f w turns m → LeadTo f w turns n → end f m ≡ end f n
  same-end turns m n first second =
      ends-alike f plain IsMade laws stands keep w ok (length turns) (length turns) m n (of-lead f plain IsMade laws stands keep w ok turns m first)
      (of-lead f plain IsMade laws stands keep w ok turns n second)
      (leads-alike f plain IsMade laws stands keep w ok turns m n first second)

  -- no run has more than the most events
  few-on : (ps : List ProcNo) (e : ℕ) (m after : Machine U C) → IsOf f plain IsMade laws stands keep w ok e m → e ≤ MAX_EVENTS
      → AreOpenTurns f ps m after → e + length ps ≤ MAX_EVENTS
  few-on [] e m after of few turns = omega (arith, few)
  few-on (p ∷ ps) e m after of few turns =
      let event = of.event in
      let below = turns.2.event in
      let more = few-on ps (e + 1) turns.0 after (of-one f plain IsMade laws stands keep w ok e m turns.0 p of turns.2 turns.3) (omega (arith, event, below)) turns.4 in
      omega (arith, more)

  pub few-turns : (turns : List ProcNo) (m : Machine U C) → LeadTo f w turns m → length turns ≤ MAX_EVENTS
  few-turns turns m lead =
      let few = few-on turns 0 (opening f w) m (of-opening f plain IsMade laws stands keep w ok) (omega arith) lead in
      omega (arith, few)

  -- each turn is of a processor of the workload
  within-on : (ps : List ProcNo) (e : ℕ) (m after : Machine U C) → IsOf f plain IsMade laws stands keep w ok e m → AreOpenTurns f ps m after
      → All (λ p. p.0 < w.processors) ps
  within-on [] e m after of turns = λ k d below. absurd (omega arith)
  within-on (p ∷ ps) e m after of turns =
      All-cons (λ q. q.0 < w.processors) p ps (subst (λ (v : WorkloadView). p.0 < v.processors) of.workload turns.2.within)
      (within-on ps (e + 1) turns.0 after (of-one f plain IsMade laws stands keep w ok e m turns.0 p of turns.2 turns.3) turns.4)

  pub turns-within : (turns : List ProcNo) (m : Machine U C) → LeadTo f w turns m → All (λ p. p.0 < w.processors) turns
  turns-within turns m lead = within-on turns 0 (opening f w) m (of-opening f plain IsMade laws stands keep w ok) lead

  -- no run of these turns ends before the last
  open-first : (ps : List ProcNo) (m after : Machine U C) → 0 < length ps → AreOpenTurns f ps m after → end f m ≡ None
  open-first [] m after some turns = absurd (omega arith)
  open-first (p ∷ ps) m after some turns = over-open f m turns.1

  open-before : (turns : List ProcNo) (m : Machine U C) → LeadTo f w turns m → (n : ℕ) → n < length turns → IsOpen f w (take n turns)
  open-before turns m lead n below = λ other leads.
      let whole : LeadTo f w (take n turns ++ drop n turns) m = subst (λ (ps : List ProcNo). LeadTo f w ps m) (sym (take-append-drop n turns)) lead in
      let parts = turns-split f (take n turns) (drop n turns) (opening f w) m whole in
      same-end (take n turns) other parts.0 leads parts.1 ∙ open-first (drop n turns) parts.0 m (omega (arith, length-drop n turns)) parts.2

  pub can-be-run : (turns : List ProcNo) (m : Machine U C) → LeadTo f w turns m → CanBeRun f w turns
  can-be-run turns m lead =
      record { few = few-turns turns m lead; within = turns-within turns m lead; open_before = open-before turns m lead }
