use Rattle.std.proofs.Common.{arith}
use Rattle.sa_prio.proofs.LowLines.{first-is-low, none-before}
use Rattle.sa_prio.proofs.pairs.low_from.Goals as goal

pub returns-then-q-processors-clause-low : goal.returns-then-q-processors-clause-low
returns-then-q-processors-clause-low c =
    first-is-low c.args.low c.from.result c.args.from (omega arith) c.from.ensures (omega (arith, c.if-q-processors.true, c.requires.few))

pub returns-then-q-processors-clause-between : goal.returns-then-q-processors-clause-between
returns-then-q-processors-clause-between c = none-before c.args.low c.from.result c.args.from (omega arith) c.from.ensures

pub returns-else-q-processors-clause-between : goal.returns-else-q-processors-clause-between
returns-else-q-processors-clause-between c = λ q behind before.
    none-before c.args.low c.from.result c.args.from (omega arith) c.from.ensures q behind (omega (arith, c.if-q-processors.false, before))
