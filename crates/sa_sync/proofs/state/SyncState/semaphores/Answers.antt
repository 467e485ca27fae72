use Rattle.std.proofs.Common.{arith}
use Rattle.sa_sync.proofs.Steps.{semaphores_are}
use Rattle.sa_sync.proofs.state.SyncState.semaphores.Goals as goal

pub overflow_cast-result : goal.overflow_cast-result
overflow_cast-result c = let few = c.self.invariant.semaphores in omega arith

pub returns : goal.returns
returns c = let all = semaphores_are c.self.inside c.args.self.now c.self.view_is c.self.invariant in omega arith
