use Rattle.std.proofs.Common.{arith}
use Rattle.sa_svg.specs.Head.{space_name}
use Rattle.sa_shapes.proofs.Ranges.{one_more}
use Rattle.sa_svg.proofs.Appends.{range-all}
use Rattle.sa_svg.proofs.head.push_space_names.Goals as goal

pub loop-s-preserved : goal.loop-s-preserved
loop-s-preserved c = one_more (space_name c.args.layout c.args.band) c.loop-s.s _ _ _ c.loop-s.invariant c.in_ok-push_space_name.ensures

pub returns : goal.returns
returns c =
    range-all (space_name c.args.layout c.args.band) c.args.layout.spaces c.loop-s.s c.args.out.now.items c.loop-s.out.items
    (omega (arith, c.loop-s-test.false, c.loop-s.auto.s-end)) c.loop-s.invariant
