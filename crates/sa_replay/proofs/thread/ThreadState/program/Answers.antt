use Rattle.std.proofs.Common.{arith}
use Rattle.std.proofs.lemmas.Grind.{common_steps}
use Rattle.sa_replay.proofs.thread.ThreadState.program.Goals as goal

pub returns : goal.returns
returns c = grind (arith, common_steps)
