use Rattle.std.proofs.Common.{◌++◌, false, ap, ◌∙◌, arith}
use Rattle.sa_package_keys.specs.Codes.{flag}
use Rattle.sa_package_keys.proofs.Loops.{so_far-none, so_far-more, so_far-all}
use Rattle.sa_package_keys.proofs.lists.put_locks.Goals as goal

pub loop-l-init : goal.loop-l-init
loop-l-init c = so_far-none flag c.args.lists.now.locked _ _ _ (omega arith) c.in_ok-put_number.ensures

pub loop-l-preserved : goal.loop-l-preserved
loop-l-preserved c = so_far-more flag c.args.lists.now.locked false c.loop-l.l _ _ _ (omega arith) c.loop-l.invariant
    (c.in_ok-put_flag.ensures ∙ ap (λ held. c.loop-l.key.items ++ flag held) c.is_locked.ensures)

pub returns : goal.returns
returns c = so_far-all flag c.args.lists.now.locked c.loop-l.l _ _ (omega arith) c.loop-l.invariant
