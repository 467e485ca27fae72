use Rattle.sa_kernel_laws.proofs.Value.{owed-enough}
use Rattle.sa_kernel_model.proofs.parts.Owed.{taken-pending}
use Rattle.sa_kernel_laws.proofs.facts.owed_is_enough.Goals as goal

pub returns-clause-need : goal.returns-clause-need
returns-clause-need g c = owed-enough g.row.C.Denot

pub returns-clause-taken : goal.returns-clause-taken
returns-clause-taken g c = λ k s. taken-pending k s.0
