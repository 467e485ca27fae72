use Rattle.std.proofs.Common.{ap, arith, length}
use Rattle.sa_instr.proofs.PartsLemmas.{made-if}
use Rattle.sa_instr.proofs.instr.Instr.from_parts.Goals as goal

pub returns-clause-fit : goal.returns-clause-fit
returns-clause-fit c =
    (made-if c.args.operation c.args.operands.now c.from_operands.result (omega (arith, ap length c.form.ensures.operands)) c.from_operands.ensures).0

pub returns-clause-parts : goal.returns-clause-parts
returns-clause-parts c =
    (made-if c.args.operation c.args.operands.now c.from_operands.result (omega (arith, ap length c.form.ensures.operands)) c.from_operands.ensures).1
