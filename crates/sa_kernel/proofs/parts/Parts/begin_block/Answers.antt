use Rattle.std.proofs.Common.{arith}
use Rattle.std.proofs.lemmas.Grind.{common_steps}
use Rattle.sa_kernel.proofs.parts.Parts.begin_block.Goals as goal

pub io_for-requires : goal.io_for-requires
io_for-requires g c = grind (arith, common_steps)

pub begin-io-requires-clause-room : goal.begin-io-requires-clause-room
begin-io-requires-clause-room g c = grind (arith, common_steps)

pub begin-io-requires-clause-event : goal.begin-io-requires-clause-event
begin-io-requires-clause-event g c = grind (arith, common_steps)

pub begin-io-requires-clause-few : goal.begin-io-requires-clause-few
begin-io-requires-clause-few g c = grind (arith, common_steps)

pub begin-io-requires-clause-kind : goal.begin-io-requires-clause-kind
begin-io-requires-clause-kind g c = grind (arith, common_steps)

pub say-requires : goal.say-requires
say-requires g c = grind (arith, common_steps)

pub put_aside-requires-clause-within : goal.put_aside-requires-clause-within
put_aside-requires-clause-within g c = grind (arith, common_steps)

pub put_aside-requires-clause-space : goal.put_aside-requires-clause-space
put_aside-requires-clause-space g c = grind (arith, common_steps)

pub put_aside-requires-clause-running : goal.put_aside-requires-clause-running
put_aside-requires-clause-running g c = grind (arith, common_steps)

pub put_aside-requires-clause-room : goal.put_aside-requires-clause-room
put_aside-requires-clause-room g c = grind (arith, common_steps)

pub returns-clause-exact : goal.returns-clause-exact
returns-clause-exact g c = grind (arith, common_steps)

pub returns-clause-room : goal.returns-clause-room
returns-clause-room g c = grind (arith, common_steps)

pub returns-clause-items : goal.returns-clause-items
returns-clause-items g c = grind (arith, common_steps)
