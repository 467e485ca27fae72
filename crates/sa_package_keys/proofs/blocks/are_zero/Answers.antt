use Rattle.std.proofs.Common.{◌&&◌, nat_eq, sym, ap, ◌∙◌}
use Rattle.std.proofs.lemmas.Bool.{eq-eqb}
use Rattle.std.specs.List.{list_all}
use lib.Pointwise.{pointwise}
use Rattle.sa_instr.specs.declared.limits.TheConstants.{REGISTERS}
use Rattle.sa_package_keys.specs.Packages.{is_zero}
use Rattle.sa_package_keys.proofs.Tests.{pointwise-zeros}
use Rattle.sa_package_keys.proofs.blocks.are_zero.Goals as goal

pub returns : goal.returns
returns c =
    let regs = c.args.regs.now in
    let eight = c.ranges-2.ensures.eight in
    c.eq.ensures ∙ ap (pointwise nat_eq regs) c.zero.ensures ∙ pointwise-zeros regs REGISTERS eight
    ∙ ap (λ b. b && list_all is_zero regs) (sym (eq-eqb _ REGISTERS eight))
