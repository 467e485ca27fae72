use Rattle.std.proofs.Common.{sym, ◌∙◌, ap, arith}
use Rattle.sa_spaces.specs.Workload.{WorkloadView}
use Rattle.sa_laws.specs.Closing.{can_be_raised}
use Rattle.sa_assign.proofs.ChoiceLemmas.{least_below-found}
use Rattle.sa_check_moment.specs.Seen.{seen}
use Rattle.sa_check.proofs.lines.lowest_low.Goals as goal

pub returns-then-can_be_raised : goal.returns-then-can_be_raised
returns-then-can_be_raised c =
    let m = seen c.args.moment.now in
    let size = c.processors-p-end.ensures.value in
    let is = c.workload.ensures in
    let n = ap (λ (w : WorkloadView). w.processors) is in
    sym (least_below-found m.workload.processors (can_be_raised m.readings c.args.s) c.loop-p.p c.loop-p.invariant
    (sym c.can_be_raised.ensures ∙ c.if-can_be_raised.true) (omega arith))
