use Rattle.std.proofs.Common.{None, ap, ◌∙◌}
use Rattle.sa_fast.specs.Instruction.{blocks, next_of}
use Rattle.sa_fast.proofs.instruction.io.Goals as goal

pub returns : goal.returns
returns c w =
    let a = c.args in c.block_for.ensures w ∙ ap (λ b. blocks a.shared.now w a.t b a.length None) (c.next.ensures ∙ ap next_of c.block-block.ensures)
