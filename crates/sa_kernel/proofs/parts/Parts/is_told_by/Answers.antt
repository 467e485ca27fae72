use Rattle.std.proofs.Common.{arith}
use Rattle.std.proofs.lemmas.Grind.{common_steps}
use Rattle.sa_kernel.proofs.parts.Parts.is_told_by.Goals as goal

pub owner-requires : goal.owner-requires
owner-requires g c = grind (arith, common_steps)

pub is_owner-requires : goal.is_owner-requires
is_owner-requires g c = grind (arith, common_steps)

pub aim-requires : goal.aim-requires
aim-requires g c = grind (arith, common_steps)

pub is_owner-requires-then-is_owner : goal.is_owner-requires-then-is_owner
is_owner-requires-then-is_owner g c = grind (arith, common_steps)

pub line-requires : goal.line-requires
line-requires g c = grind (arith, common_steps)

pub returns-then-is_owner-2 : goal.returns-then-is_owner-2
returns-then-is_owner-2 g c = grind (arith, common_steps)

pub returns-else-is_owner-2 : goal.returns-else-is_owner-2
returns-else-is_owner-2 g c = grind (arith, common_steps)
