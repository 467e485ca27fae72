use Rattle.sa_kernel_laws.proofs.Value.{low_bits-say, low_bits-few}
use Rattle.sa_kernel_laws.proofs.facts.low_bits_say_where.Goals as goal

pub returns-clause-bits : goal.returns-clause-bits
returns-clause-bits g c = low_bits-say g.row.C.Denot

pub returns-clause-few : goal.returns-clause-few
returns-clause-few g c = low_bits-few g.row.C.Denot
