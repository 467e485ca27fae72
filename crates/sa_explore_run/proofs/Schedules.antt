-- The schedules that a search gives can be run.
use Rattle.std.proofs.Common.{◌≡◌, ℕ, ◌<◌, Option, Some, None, List, ◌++◌, refl, sym, subst, ◌∙◌}
use Rattle.std.specs.Prelude.{IfSome, All}
use Rattle.sa_base.specs.declared.number.ProcNo.{ProcNo}
use Rattle.sa_base.specs.declared.record.End.TheVariants.{AllDone, Stuck}
use Rattle.sa_spaces.specs.Space.{SpaceView}
use Rattle.sa_spaces.specs.Workload.{WorkloadView, IsWorkload}
use Rattle.sa_abstract.specs.Calls.{Calls}
use Rattle.sa_abstract.specs.Keeps.{Standing, Keeps}
use Rattle.sa_core_model.specs.Machine.{Machine}
use Rattle.sa_outlook.specs.UserLevels.{IgnoresNumbers}
use Rattle.sa_explore_model.specs.declared.answer.Extent.{Extent}
use Rattle.sa_explore_model.specs.declared.answer.Extent.TheVariants.{All as Whole, Part}
use Rattle.sa_explore_model.specs.declared.answer.Found.{Found}
use Rattle.sa_explore_model.specs.declared.answer.Explored.{Explored}
use Rattle.sa_explore_runs.specs.Runs.{LeadTo, CanBeRun}
use Rattle.sa_explore_runs.proofs.Schedules.{same-end, turns-within, can-be-run}
use Rattle.sa_explore.specs.Explored.{IsExplored}
use Rattle.sa_explore_run.specs.Behind.{LeadToStuck}
use Rattle.sa_explore_run.specs.Answer.{AreWithin}

module _ {U C D : Type 0} (f : Calls U C) (plain : Option SpaceView → C → D) (IsMade : Option SpaceView → U → Type 0) (laws : IgnoresNumbers f plain IsMade)
    (stands : Standing U C) (keep : Keeps f stands) (w : WorkloadView) (ok : IsWorkload w)
    (most : ℕ) (x : Explored) (is : IsExplored f plain w most x) where
  -- what holds of all turns that lead to a machine holds of a schedule that was found
  found-lead : (o : Option Found) (P : List ProcNo → Type 0) → ((turns : List ProcNo) (m : Machine U C) → LeadTo f w turns m → P turns)
      → ((found : Found) → o ≡ Some found → (turns : List ProcNo) × (m : Machine U C) × LeadTo f w turns m × (found.schedule.items ≡ turns))
      → IfSome o (λ found. P found.schedule.items)
  found-lead None P holds leads = tt
  found-lead (Some found) P holds leads =
      let lead = leads found refl in subst P (sym lead.3) (holds lead.0 lead.1 lead.2)

  done-leads : (found : Found) → x.all_done ≡ Some found
      → (turns : List ProcNo) × (m : Machine U C) × LeadTo f w turns m × (found.schedule.items ≡ turns)
  done-leads found here = let sound = is.sound AllDone found here in (is.begun ++ sound.turns, sound.machine, sound.way, sound.is)

  stuck-leads : (found : Found) → x.stuck ≡ Some found
      → (turns : List ProcNo) × (m : Machine U C) × LeadTo f w turns m × (found.schedule.items ≡ turns)
  stuck-leads found here = let sound = is.sound Stuck found here in (is.begun ++ sound.turns, sound.machine, sound.way, sound.is)

  endless-leads : (found : Found) → x.endless ≡ Some found
      → (turns : List ProcNo) × (m : Machine U C) × LeadTo f w turns m × (found.schedule.items ≡ turns)
  endless-leads found here = go x.extent refl
    where
      go : (extent : Extent) → x.extent ≡ extent
          → (turns : List ProcNo) × (m : Machine U C) × LeadTo f w turns m × (found.schedule.items ≡ turns)
      go Whole all = let sound = (is.endless all).sound found here in (is.begun ++ sound.0, sound.1, sound.3, sound.2)
      go Part part = let e : Some found ≡ None = sym here ∙ is.unknown part in absurd cc

  -- each machine to which the schedule to a stuck end leads is stuck
  stuck-all : (found : Found) → x.stuck ≡ Some found → LeadToStuck f w found.schedule.items
  stuck-all found here m lead =
      let sound = is.sound Stuck found here in
      let turns = is.begun ++ sound.turns in
      same-end f plain IsMade laws stands keep w ok turns m sound.machine (subst (λ (ps : List ProcNo). LeadTo f w ps m) sound.is lead) sound.way
      ∙ sound.ends

  some-found : (o : Option Found) (P : List ProcNo → Type 0) → ((found : Found) → o ≡ Some found → P found.schedule.items)
      → IfSome o (λ found. P found.schedule.items)
  some-found None P holds = tt
  some-found (Some found) P holds = holds found refl

  pub stuck-end : IfSome x.stuck (λ found. LeadToStuck f w found.schedule.items)
  stuck-end = some-found x.stuck (LeadToStuck f w) stuck-all

  pub stuck-run : IfSome x.stuck (λ found. CanBeRun f w found.schedule.items)
  stuck-run = found-lead x.stuck (CanBeRun f w) (can-be-run f plain IsMade laws stands keep w ok) stuck-leads

  pub are-within : AreWithin w x
  are-within = record {
    all_done = found-lead x.all_done (λ ps. All (λ p. p.0 < w.processors) ps) (turns-within f plain IsMade laws stands keep w ok) done-leads;
    stuck = found-lead x.stuck (λ ps. All (λ p. p.0 < w.processors) ps) (turns-within f plain IsMade laws stands keep w ok) stuck-leads;
    endless = found-lead x.endless (λ ps. All (λ p. p.0 < w.processors) ps) (turns-within f plain IsMade laws stands keep w ok) endless-leads;
  }
