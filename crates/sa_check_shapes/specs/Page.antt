-- What the code was told of an upcall page.
use Rattle.std.specs.Prelude.{◌≡◌}
use Rattle.sa_base.specs.declared.number.SpaceNo.{SpaceNo}
use Rattle.sa_base.specs.declared.limits.TheConstants.{UPCALL_PAGE}
use Rattle.sa_laws.specs.Readings.{Readings, is_resident, is_fetching}
use Rattle.sa_check_shapes.specs.declared.behind.UpcallPage.{UpcallPage}

-- these readings say this of the upcall page of a space
pub record IsSeen (r : Readings) (s : SpaceNo) (page : UpcallPage) : Type 0 where
  pub resident : is_resident r s UPCALL_PAGE ≡ page.resident
  pub fetching : is_fetching r s ≡ page.fetching
