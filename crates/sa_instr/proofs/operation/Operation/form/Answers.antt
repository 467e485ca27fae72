use Rattle.std.proofs.Common.{◌≤◌, length, sym, subst}
use Rattle.sa_instr.proofs.OperationLemmas.{few-operands}
use Rattle.sa_instr.proofs.operation.Operation.form.Goals as goal

pub returns-clause-few : goal.returns-clause-few
returns-clause-few c = subst (λ operands. length operands ≤ 2) (sym c.written.ensures.1) (few-operands c.args.self)
