use Rattle.std.proofs.Common.{arith}
use Rattle.std.proofs.lemmas.Grind.{common_steps}
use Rattle.sa_replay.proofs.replay.Replay.allows.Goals as goal

pub can_ins-requires : goal.can_ins-requires
can_ins-requires c = grind (arith, common_steps)

pub can_out-requires : goal.can_out-requires
can_out-requires c = grind (arith, common_steps)

pub is_owned-requires : goal.is_owned-requires
is_owned-requires c = grind (arith, common_steps)

pub is_runner-requires : goal.is_runner-requires
is_runner-requires c = grind (arith, common_steps)

pub can_block-requires : goal.can_block-requires
can_block-requires c = grind (arith, common_steps)

pub can_unblock-requires : goal.can_unblock-requires
can_unblock-requires c = grind (arith, common_steps)

pub is_owned-requires-in-Cont : goal.is_owned-requires-in-Cont
is_owned-requires-in-Cont c = grind (arith, common_steps)

pub nobody_runs-requires : goal.nobody_runs-requires
nobody_runs-requires c = grind (arith, common_steps)

pub stands_in-requires : goal.stands_in-requires
stands_in-requires c = grind (arith, common_steps)

pub is_owned-requires-in-Back : goal.is_owned-requires-in-Back
is_owned-requires-in-Back c = grind (arith, common_steps)

pub is_runner-requires-then-is_owned-3 : goal.is_runner-requires-then-is_owned-3
is_runner-requires-then-is_owned-3 c = grind (arith, common_steps)

pub is_owned-requires-in-Run : goal.is_owned-requires-in-Run
is_owned-requires-in-Run c = grind (arith, common_steps)

pub nobody_runs-requires-then-is_owned-4 : goal.nobody_runs-requires-then-is_owned-4
nobody_runs-requires-then-is_owned-4 c = grind (arith, common_steps)

pub stands_in-requires-then-nobody_runs-2 : goal.stands_in-requires-then-nobody_runs-2
stands_in-requires-then-nobody_runs-2 c = grind (arith, common_steps)

pub is_owned-requires-in-Ready : goal.is_owned-requires-in-Ready
is_owned-requires-in-Ready c = grind (arith, common_steps)

pub can_be_ready-requires : goal.can_be_ready-requires
can_be_ready-requires c = grind (arith, common_steps)

pub owner-requires : goal.owner-requires
owner-requires c = grind (arith, common_steps)

pub nobody_runs-requires-then-eq : goal.nobody_runs-requires-then-eq
nobody_runs-requires-then-eq c = grind (arith, common_steps)

pub returns-in-Ins-clause-needs : goal.returns-in-Ins-clause-needs
returns-in-Ins-clause-needs c = grind (arith, common_steps)

pub returns-in-Ins-clause-change : goal.returns-in-Ins-clause-change
returns-in-Ins-clause-change c = grind (arith, common_steps)

pub returns-in-Out-clause-needs : goal.returns-in-Out-clause-needs
returns-in-Out-clause-needs c = grind (arith, common_steps)

pub returns-in-Out-clause-change : goal.returns-in-Out-clause-change
returns-in-Out-clause-change c = grind (arith, common_steps)

pub returns-then-is_owned-clause-needs : goal.returns-then-is_owned-clause-needs
returns-then-is_owned-clause-needs c = grind (arith, common_steps)

pub returns-then-is_owned-clause-change : goal.returns-then-is_owned-clause-change
returns-then-is_owned-clause-change c = grind (arith, common_steps)

pub returns-else-is_owned-clause-needs : goal.returns-else-is_owned-clause-needs
returns-else-is_owned-clause-needs c = grind (arith, common_steps)

pub returns-else-is_owned-clause-change : goal.returns-else-is_owned-clause-change
returns-else-is_owned-clause-change c = grind (arith, common_steps)

pub returns-in-Block-clause-needs : goal.returns-in-Block-clause-needs
returns-in-Block-clause-needs c = grind (arith, common_steps)

pub returns-in-Block-clause-change : goal.returns-in-Block-clause-change
returns-in-Block-clause-change c = grind (arith, common_steps)

pub returns-in-Unblock-clause-needs : goal.returns-in-Unblock-clause-needs
returns-in-Unblock-clause-needs c = grind (arith, common_steps)

pub returns-in-Unblock-clause-change : goal.returns-in-Unblock-clause-change
returns-in-Unblock-clause-change c = grind (arith, common_steps)

pub returns-then-nobody_runs-clause-needs : goal.returns-then-nobody_runs-clause-needs
returns-then-nobody_runs-clause-needs c = grind (arith, common_steps)

pub returns-then-nobody_runs-clause-change : goal.returns-then-nobody_runs-clause-change
returns-then-nobody_runs-clause-change c = grind (arith, common_steps)

pub returns-else-nobody_runs-clause-needs : goal.returns-else-nobody_runs-clause-needs
returns-else-nobody_runs-clause-needs c = grind (arith, common_steps)

pub returns-else-nobody_runs-clause-change : goal.returns-else-nobody_runs-clause-change
returns-else-nobody_runs-clause-change c = grind (arith, common_steps)

pub returns-then-is_owned-3-clause-needs : goal.returns-then-is_owned-3-clause-needs
returns-then-is_owned-3-clause-needs c = grind (arith, common_steps)

pub returns-then-is_owned-3-clause-change : goal.returns-then-is_owned-3-clause-change
returns-then-is_owned-3-clause-change c = grind (arith, common_steps)

pub returns-else-is_owned-3-clause-needs : goal.returns-else-is_owned-3-clause-needs
returns-else-is_owned-3-clause-needs c = grind (arith, common_steps)

pub returns-else-is_owned-3-clause-change : goal.returns-else-is_owned-3-clause-change
returns-else-is_owned-3-clause-change c = grind (arith, common_steps)

pub returns-then-nobody_runs-2-clause-needs : goal.returns-then-nobody_runs-2-clause-needs
returns-then-nobody_runs-2-clause-needs c = grind (arith, common_steps)

pub returns-then-nobody_runs-2-clause-change : goal.returns-then-nobody_runs-2-clause-change
returns-then-nobody_runs-2-clause-change c = grind (arith, common_steps)

pub returns-else-nobody_runs-2-clause-needs : goal.returns-else-nobody_runs-2-clause-needs
returns-else-nobody_runs-2-clause-needs c = grind (arith, common_steps)

pub returns-else-nobody_runs-2-clause-change : goal.returns-else-nobody_runs-2-clause-change
returns-else-nobody_runs-2-clause-change c = grind (arith, common_steps)

pub returns-then-is_owned-5-clause-needs : goal.returns-then-is_owned-5-clause-needs
returns-then-is_owned-5-clause-needs c = grind (arith, common_steps)

pub returns-then-is_owned-5-clause-change : goal.returns-then-is_owned-5-clause-change
returns-then-is_owned-5-clause-change c = grind (arith, common_steps)

pub returns-else-is_owned-5-clause-needs : goal.returns-else-is_owned-5-clause-needs
returns-else-is_owned-5-clause-needs c = grind (arith, common_steps)

pub returns-else-is_owned-5-clause-change : goal.returns-else-is_owned-5-clause-change
returns-else-is_owned-5-clause-change c = grind (arith, common_steps)

pub returns-then-eq-clause-needs : goal.returns-then-eq-clause-needs
returns-then-eq-clause-needs c = grind (arith, common_steps)

pub returns-then-eq-clause-change : goal.returns-then-eq-clause-change
returns-then-eq-clause-change c = grind (arith, common_steps)

pub returns-else-eq-clause-needs : goal.returns-else-eq-clause-needs
returns-else-eq-clause-needs c = grind (arith, common_steps)

pub returns-else-eq-clause-change : goal.returns-else-eq-clause-change
returns-else-eq-clause-change c = grind (arith, common_steps)

pub returns-in_default : goal.returns-in_default
returns-in_default c = grind (arith, common_steps)
