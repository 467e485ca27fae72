use Rattle.std.proofs.Common.{arith}
use Rattle.sa_sync.specs.Sync.{free_mutex}
use Rattle.sa_package_keys.specs.Packages.{mutex_key}
use Rattle.sa_package_keys.proofs.Loops.{so_far-none, so_far-more, so_far-all}
use Rattle.sa_package_keys.proofs.sync.put_mutexes.Goals as goal

pub loop-m-init : goal.loop-m-init
loop-m-init c = so_far-none mutex_key c.args.sync.now.mutexes _ _ _ (omega arith) c.in_ok-put_number.ensures

pub loop-m-preserved : goal.loop-m-preserved
loop-m-preserved c = so_far-more mutex_key c.args.sync.now.mutexes free_mutex c.loop-m.m _ _ _ (omega arith) c.loop-m.invariant c.in_ok-put_mutex.ensures

pub returns : goal.returns
returns c = so_far-all mutex_key c.args.sync.now.mutexes c.loop-m.m _ _ (omega arith) c.loop-m.invariant
