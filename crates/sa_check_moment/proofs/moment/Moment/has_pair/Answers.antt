use Rattle.std.proofs.Common.{sym, ◌∙◌, ap, arith}
use Rattle.std.specs.Prelude.{is_some}
use Rattle.sa_spaces.specs.Workload.{WorkloadView}
use Rattle.sa_assign.proofs.ChoiceLemmas.{least_below-found}
use Rattle.sa_ranks.specs.Pairs.{is_pair_on}
use Rattle.sa_check_moment.specs.Seen.{seen}
use Rattle.sa_check_moment.proofs.moment.Moment.has_pair.Goals as goal

pub returns-then-is_some : goal.returns-then-is_some
returns-then-is_some c =
    let m = seen c.args.self.now in
    let size = c.processors-q-end.ensures.value in
    let n = ap (λ (w : WorkloadView). w.processors) c.workload.ensures in
    sym (ap is_some (least_below-found m.workload.processors (is_pair_on m.readings c.args.s) c.loop-q.q c.loop-q.invariant
    (ap is_some (sym c.outranked_by.ensures) ∙ sym c.is_some.ensures ∙ c.if-is_some.true) (omega (arith, size, n, c.loop-q-test.true))))
