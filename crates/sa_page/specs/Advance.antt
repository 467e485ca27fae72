-- What is seen behind an event, where the abstract machine can take its records.
use Rattle.std.specs.Prelude.{◌≡◌, Option, Some, None}
use Rattle.sa_laws.specs.Event.{Event}
use Rattle.sa_laws.specs.Step.{AreSteps, IsStepwise}
use Rattle.sa_check_moment.specs.Seen.{Seen, seen}
use Rattle.sa_check.specs.Judged.{after}
use Rattle.sa_check.specs.Records.{behind_some}
use Rattle.sa_cells.specs.declared.view.View.{View}

-- some records of an event, from the moment before them on
pub record IsBehind (m : Seen) (e : Event) (next : Seen) : Type 0 where
  pub steps : AreSteps m.workload e.number e.proc m.readings e.records
  pub moment : next ≡ behind_some m e e.records

abbrev pub ReadsSome : Seen → Event → Option View → Type 0
ReadsSome m e None = AreSteps m.workload e.number e.proc m.readings e.records → ⊥
ReadsSome m e (Some view) = IsBehind m e (seen view.moment)

-- a whole event
pub record IsAdvanced (m : Seen) (e : Event) (next : Seen) : Type 0 where
  pub steps : IsStepwise m.workload m.readings e
  pub moment : next ≡ after m e

abbrev pub Advances : Seen → Event → Option View → Type 0
Advances m e None = IsStepwise m.workload m.readings e → ⊥
Advances m e (Some view) = IsAdvanced m e (seen view.moment)
