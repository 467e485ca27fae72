use Rattle.std.proofs.Common.{◌++◌, ◌∙◌, ap}
use Rattle.std.proofs.lemmas.Result.{on_ok_weaker}
use Rattle.sa_debug.proofs.script.Registers.{all-registers}
use Rattle.sa_debug.proofs.script.printing.push_registers.Goals as goal

pub returns : goal.returns
returns c =
    on_ok_weaker c.push_some.result (λ printed. printed ∙ ap (λ bs. c.args.out.now.items ++ bs) (all-registers c.args.regs.now c.ranges-2.ensures.eight))
    c.push_some.ensures
