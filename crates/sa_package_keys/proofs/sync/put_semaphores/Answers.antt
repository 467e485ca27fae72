use Rattle.std.proofs.Common.{arith}
use Rattle.sa_sync.specs.Sync.{semaphore_of}
use Rattle.sa_package_keys.specs.Packages.{semaphore_key}
use Rattle.sa_package_keys.proofs.Loops.{so_far-none, so_far-more, so_far-all}
use Rattle.sa_package_keys.proofs.sync.put_semaphores.Goals as goal

pub loop-k-init : goal.loop-k-init
loop-k-init c = so_far-none semaphore_key c.args.sync.now.semaphores _ _ _ (omega arith) c.in_ok-put_number.ensures

pub loop-k-preserved : goal.loop-k-preserved
loop-k-preserved c = so_far-more semaphore_key c.args.sync.now.semaphores (semaphore_of 0) c.loop-k.k _ _ _ (omega arith) c.loop-k.invariant c.in_ok-put_semaphore.ensures

pub returns : goal.returns
returns c = so_far-all semaphore_key c.args.sync.now.semaphores c.loop-k.k _ _ (omega arith) c.loop-k.invariant
