use Rattle.std.proofs.Common.{sym, ◌∙◌, ap, arith, is_none}
use Rattle.sa_spaces.specs.Workload.{WorkloadView}
use Rattle.sa_laws.specs.Closing.{will_tell}
use Rattle.sa_assign.proofs.ChoiceLemmas.{least_below-found}
use Rattle.sa_check_moment.specs.Seen.{seen}
use Rattle.sa_check.proofs.lines.is_told_somewhere.Goals as goal

pub returns-then-will_tell : goal.returns-then-will_tell
returns-then-will_tell c =
    let m = seen c.args.moment.now in
    let size = c.processors-p-end.ensures.value in
    let is = c.workload.ensures in
    let n = ap (λ (w : WorkloadView). w.processors) is in
    sym (ap is_none (least_below-found m.workload.processors (will_tell m.readings c.args.s) c.loop-p.p c.loop-p.invariant
    (sym c.will_tell.ensures ∙ c.if-will_tell.true) (omega arith)))
