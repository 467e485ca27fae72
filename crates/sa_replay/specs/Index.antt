-- Who runs on each processor, as a list that tells it at once.
use Rattle.std.specs.Prelude.{◌≡◌, List, Option, Some, None, slice_index_or}
use Rattle.sa_base.specs.declared.number.ProcNo.{ProcNo}
use Rattle.sa_base.specs.declared.number.SpaceNo.{SpaceNo}
use Rattle.sa_base.specs.declared.number.ThreadNo.{ThreadNo}
use Rattle.sa_laws.specs.declared.place.Place.{Place}
use Rattle.sa_laws.specs.declared.place.Place.TheVariants.{Running}
use Rattle.sa_laws.specs.State.{Runner}

abbrev pub runner_at : List (Option Runner) → ProcNo → Option Runner
runner_at runners p = slice_index_or runners p.0 None

-- where each thread is
abbrev pub Places : Type 0
Places = SpaceNo → ThreadNo → Place

-- the list has exactly the threads that run: so at most one runs on a processor
pub record IsIndex (places : Places) (runners : List (Option Runner)) : Type 0 where
  pub listed : (p : ProcNo) (s : SpaceNo) (t : ThreadNo) → places s t ≡ Running p → runner_at runners p ≡ Some (record { space = s; thread = t })
  pub there : (p : ProcNo) (s : SpaceNo) (t : ThreadNo) → runner_at runners p ≡ Some (record { space = s; thread = t }) → places s t ≡ Running p
