use Rattle.sa_kernel_laws.proofs.Value.{told-held, notes-handed}
use Rattle.sa_kernel_laws.proofs.facts.notes_are_handed_out.Goals as goal

pub returns-clause-held : goal.returns-clause-held
returns-clause-held g c = told-held g.row.C.Denot

pub returns-clause-order : goal.returns-clause-order
returns-clause-order g c = notes-handed g.row.C.Denot
