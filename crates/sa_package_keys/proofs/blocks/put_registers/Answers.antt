use Rattle.std.proofs.Common.{◌++◌, sym, ap, ◌∙◌, arith}
use Rattle.sa_package_keys.specs.Codes.{number}
use Rattle.sa_package_keys.proofs.Loops.{so_far-none, so_far-more, so_far-all}
use Rattle.sa_package_keys.proofs.blocks.put_registers.Goals as goal

pub loop-n-init : goal.loop-n-init
loop-n-init c = so_far-none number c.args.regs.now _ _ _ (sym c.ranges-2.ensures.eight) c.in_ok-put_number.ensures

pub loop-n-preserved : goal.loop-n-preserved
loop-n-preserved c =
    so_far-more number c.args.regs.now 0 c.loop-n.n _ _ _ (omega (arith, c.ranges-2.ensures.eight)) c.loop-n.invariant
    (c.in_ok-put_number-2.ensures ∙ ap (λ n. c.loop-n.key.items ++ number n) c.register.ensures)

pub returns : goal.returns
returns c = so_far-all number c.args.regs.now c.loop-n.n _ _ (omega (arith, c.ranges-2.ensures.eight)) c.loop-n.invariant
