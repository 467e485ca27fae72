use Rattle.std.proofs.Common.{arith}
use Rattle.sa_svg.specs.Head.{lane_name}
use Rattle.sa_shapes.proofs.Ranges.{one_more}
use Rattle.sa_svg.proofs.Appends.{range-all}
use Rattle.sa_svg.proofs.head.push_lane_names.Goals as goal

pub loop-p-preserved : goal.loop-p-preserved
loop-p-preserved c = one_more (lane_name c.args.layout c.args.band) c.loop-p.p _ _ _ c.loop-p.invariant c.in_ok-push_lane_name.ensures

pub returns : goal.returns
returns c =
    range-all (lane_name c.args.layout c.args.band) c.args.layout.lanes c.loop-p.p c.args.out.now.items c.loop-p.out.items
    (omega (arith, c.loop-p-test.false, c.loop-p.auto.p-end)) c.loop-p.invariant
