use Rattle.std.proofs.Common.{[], arith}
use Rattle.sa_package_keys.specs.Codes.{number, list}
use Rattle.sa_package_keys.proofs.Loops.{so_far-none, so_far-more, so_far-all}
use Rattle.sa_package_keys.proofs.lists.put_all_ready.Goals as goal

pub loop-l-init : goal.loop-l-init
loop-l-init c = so_far-none (list number) c.args.lists.now.lists _ _ _ (omega arith) c.in_ok-put_number.ensures

pub loop-l-preserved : goal.loop-l-preserved
loop-l-preserved c = so_far-more (list number) c.args.lists.now.lists [] c.loop-l.l _ _ _ (omega arith) c.loop-l.invariant c.in_ok-put_ready.ensures

pub returns : goal.returns
returns c = so_far-all (list number) c.args.lists.now.lists c.loop-l.l _ _ (omega arith) c.loop-l.invariant
