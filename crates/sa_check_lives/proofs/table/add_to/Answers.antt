use Rattle.std.proofs.Common.{arith}
use Rattle.std.proofs.lemmas.Grind.{common_steps}
use Rattle.sa_check_lives.proofs.table.add_to.Goals as goal

pub add-requires : goal.add-requires
add-requires c = grind (arith, common_steps)

pub returns-in-Some-clause-there : goal.returns-in-Some-clause-there
returns-in-Some-clause-there c = grind (arith, common_steps)

pub returns-in-Some-clause-holders : goal.returns-in-Some-clause-holders
returns-in-Some-clause-holders c = grind (arith, common_steps)

pub returns-in_default-clause-there : goal.returns-in_default-clause-there
returns-in_default-clause-there c = grind (arith, common_steps)

pub returns-in_default-clause-holders : goal.returns-in_default-clause-holders
returns-in_default-clause-holders c = grind (arith, common_steps)

pub returns-in_default-2-clause-there : goal.returns-in_default-2-clause-there
returns-in_default-2-clause-there c = grind (arith, common_steps)

pub returns-in_default-2-clause-holders : goal.returns-in_default-2-clause-holders
returns-in_default-2-clause-holders c = grind (arith, common_steps)
