use Rattle.std.proofs.Common.{arith}
use Rattle.std.proofs.lemmas.Grind.{common_steps}
use Rattle.sa_kernel.proofs.parts.Parts.leave.Goals as goal

pub fetching-requires : goal.fetching-requires
fetching-requires g c = grind (arith, common_steps)

pub begin-io-requires-clause-room : goal.begin-io-requires-clause-room
begin-io-requires-clause-room g c = grind (arith, common_steps)

pub begin-io-requires-clause-event : goal.begin-io-requires-clause-event
begin-io-requires-clause-event g c = grind (arith, common_steps)

pub begin-io-requires-clause-few : goal.begin-io-requires-clause-few
begin-io-requires-clause-few g c = grind (arith, common_steps)

pub begin-io-requires-clause-kind : goal.begin-io-requires-clause-kind
begin-io-requires-clause-kind g c = grind (arith, common_steps)

pub returns-then-not-fetching-clause-exact : goal.returns-then-not-fetching-clause-exact
returns-then-not-fetching-clause-exact g c = grind (arith, common_steps)

pub returns-then-not-fetching-clause-room : goal.returns-then-not-fetching-clause-room
returns-then-not-fetching-clause-room g c = grind (arith, common_steps)

pub returns-then-not-fetching-clause-items : goal.returns-then-not-fetching-clause-items
returns-then-not-fetching-clause-items g c = grind (arith, common_steps)

pub returns-else-not-fetching-clause-exact : goal.returns-else-not-fetching-clause-exact
returns-else-not-fetching-clause-exact g c = grind (arith, common_steps)

pub returns-else-not-fetching-clause-room : goal.returns-else-not-fetching-clause-room
returns-else-not-fetching-clause-room g c = grind (arith, common_steps)

pub returns-else-not-fetching-clause-items : goal.returns-else-not-fetching-clause-items
returns-else-not-fetching-clause-items g c = grind (arith, common_steps)
