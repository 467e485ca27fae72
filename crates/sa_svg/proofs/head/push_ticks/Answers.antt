use Rattle.std.proofs.Common.{arith}
use Rattle.sa_svg.specs.Head.{tick}
use Rattle.sa_shapes.proofs.Ranges.{one_more}
use Rattle.sa_svg.proofs.Appends.{range-all}
use Rattle.sa_svg.proofs.head.push_ticks.Goals as goal

pub loop-at-preserved : goal.loop-at-preserved
loop-at-preserved c = one_more (tick c.args.layout c.args.window) c.loop-at.at _ _ _ c.loop-at.invariant c.in_ok-push_tick.ensures

pub returns : goal.returns
returns c =
    range-all (tick c.args.layout c.args.window) c.args.layout.count c.loop-at.at c.args.out.now.items c.loop-at.out.items
    (omega (arith, c.loop-at-test.false, c.loop-at.auto.at-end)) c.loop-at.invariant
