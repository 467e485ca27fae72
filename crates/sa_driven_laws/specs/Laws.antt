-- What the driven user level owes to the history of a run, and keeps.
use Rattle.sa_driven_model.specs.Stands.{driven_stands}
use Rattle.sa_driven_model.specs.Step.{driven_calls}
use Rattle.sa_laws.specs.Any.{any}
use Rattle.sa_user_laws.specs.Laws.{UserLaws}
use Rattle.sa_driven_laws.specs.DrivenFits.{driven_fits, driven_hears}

-- Its calls keep its value and its contexts beside what is read of the history, and every record that it adds is legal by the
-- rules of any user level.
abbrev pub DrivenLevelKeepsItsLaws : Type 0
DrivenLevelKeepsItsLaws = UserLaws driven_calls driven_stands any driven_fits driven_hears
