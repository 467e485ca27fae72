use Rattle.sa_prio_laws.proofs.PrioLaws.{prio-laws}
use Rattle.sa_prio_laws.proofs.laws.prio_threads_keeps_its_laws.Goals as goal

pub returns : goal.returns
returns c = prio-laws
