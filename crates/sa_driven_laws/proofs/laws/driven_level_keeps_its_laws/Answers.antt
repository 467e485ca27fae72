use Rattle.sa_driven_laws.proofs.DrivenLaws.{driven-laws}
use Rattle.sa_driven_laws.proofs.laws.driven_level_keeps_its_laws.Goals as goal

pub returns : goal.returns
returns c = driven-laws
