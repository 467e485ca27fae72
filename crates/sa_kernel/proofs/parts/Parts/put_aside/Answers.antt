use Rattle.std.proofs.Common.{arith}
use Rattle.std.proofs.lemmas.Grind.{common_steps}
use Rattle.sa_kernel.proofs.parts.Parts.put_aside.Goals as goal

pub from-requires : goal.from-requires
from-requires g c = grind (arith, common_steps)

pub index_mut-requires : goal.index_mut-requires
index_mut-requires g c = grind (arith, common_steps)

pub save-requires : goal.save-requires
save-requires g c = grind (arith, common_steps)

pub add-requires-clause-space : goal.add-requires-clause-space
add-requires-clause-space g c = grind (arith, common_steps)

pub add-requires-clause-room : goal.add-requires-clause-room
add-requires-clause-room g c = grind (arith, common_steps)

pub returns-clause-exact : goal.returns-clause-exact
returns-clause-exact g c = grind (arith, common_steps)

pub returns-clause-room : goal.returns-clause-room
returns-clause-room g c = grind (arith, common_steps)
