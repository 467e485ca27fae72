use Rattle.std.proofs.Common.{arith}
use Rattle.std.proofs.lemmas.Grind.{common_steps}
use Rattle.sa_replay.proofs.space.SpaceThreads.put.Goals as goal

pub get-thread-requires : goal.get-thread-requires
get-thread-requires c = grind (arith, common_steps)

pub moved-requires : goal.moved-requires
moved-requires c = grind (arith, common_steps)

pub set-requires : goal.set-requires
set-requires c = grind (arith, common_steps)

pub invariant_of-self : goal.invariant_of-self
invariant_of-self c = grind (arith, common_steps)

pub returns : goal.returns
returns c = grind (arith, common_steps)
