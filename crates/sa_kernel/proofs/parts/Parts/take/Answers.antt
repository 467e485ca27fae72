use Rattle.std.proofs.Common.{arith}
use Rattle.std.proofs.lemmas.Grind.{common_steps}
use Rattle.sa_kernel.proofs.parts.Parts.take.Goals as goal

pub returns-then-is_none-clause-held : goal.returns-then-is_none-clause-held
returns-then-is_none-clause-held g c = grind (arith, common_steps)

pub returns-then-is_none-clause-state : goal.returns-then-is_none-clause-state
returns-then-is_none-clause-state g c = grind (arith, common_steps)

pub returns-then-is_none-clause-room : goal.returns-then-is_none-clause-room
returns-then-is_none-clause-room g c = grind (arith, common_steps)

pub take_context-requires : goal.take_context-requires
take_context-requires g c = grind (arith, common_steps)

pub returns-clause-held : goal.returns-clause-held
returns-clause-held g c = grind (arith, common_steps)

pub returns-clause-state : goal.returns-clause-state
returns-clause-state g c = grind (arith, common_steps)

pub returns-clause-room : goal.returns-clause-room
returns-clause-room g c = grind (arith, common_steps)
