use Rattle.sa_kernel_laws.proofs.turns.Parts.{turns-parts}
use Rattle.sa_kernel_laws.proofs.laws.turns_have_parts.Goals as goal

pub returns : goal.returns
returns g c = turns-parts g.row.C.Denot
