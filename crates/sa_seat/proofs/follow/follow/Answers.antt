use Rattle.std.proofs.Common.{rules, ◌<◌, length, ap, arith}
use Rattle.sa_spaces.specs.Workload.{WorkloadView}
use Rattle.sa_core.specs.View.{machine}
use Rattle.sa_seat.proofs.Follows.{follow-next}
use Rattle.sa_seat.proofs.follow.follow.Goals as goal

pub loop-p-preserved : goal.loop-p-preserved
loop-p-preserved g c =
    let inv = c.loop-p.invariant in
    let i = c.loop-p.p in
    let at : i < length c.args.keeper.now.lanes =
    (let a = c.loop-p-test.true in let b = c.requires.follow.lanes in let d = c.processors-p-end.ensures.value in
    let w = ap (λ (v : WorkloadView). v.processors) c.workload.ensures in omega (arith, a, b, d, w)) in
    let inside : i < length c.loop-p.lines = search rules in
    follow-next (machine c.args.core.now).kernel i c.args.keeper.now c.loop-p.keeper c.store.new.keeper c.args.lines.now c.loop-p.lines _ c.line-line.result
    inv c.requires.follow.stored at inside c.line-line.ensures
    c.store.ensures (search rules)
