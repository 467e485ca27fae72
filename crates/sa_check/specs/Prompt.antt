-- What must hold of one space with something untold.
use Rattle.std.specs.Prelude.{◌≡◌, ◌≢◌, ◌⊎◌, true, []}
use Rattle.sa_base.specs.declared.number.SpaceNo.{SpaceNo}
use Rattle.sa_laws.specs.Readings.{Readings, untold_of, is_fetching}
use Rattle.sa_laws.specs.Upcalls.{OwnsNone, OwnsRaised}

pub record IsPromptTo (r : Readings) (s : SpaceNo) : Type 0 where
  pub told : untold_of r s ≢ [] → OwnsNone r s ⊎ ((is_fetching r s ≡ true) ⊎ OwnsRaised r s)
