use Rattle.std.proofs.Common.{arith}
use Rattle.sa_svg.specs.Drawing.{shape_text}
use Rattle.sa_svg.proofs.Appends.{list-more, list-all}
use Rattle.sa_svg.proofs.drawing.push_shapes.Goals as goal

pub loop-shape-preserved : goal.loop-shape-preserved
loop-shape-preserved c =
    list-more (shape_text c.args.layout c.args.window c.args.items.now) c.args.shapes.now c.loop-shape.shape-index _ c.args.out.now.items
    c.loop-shape.out.items c.push_shape.new.out.items c.loop-shape-test.true c.loop-shape.invariant c.in_ok-push_shape.ensures

pub returns : goal.returns
returns c =
    list-all (shape_text c.args.layout c.args.window c.args.items.now) c.args.shapes.now c.loop-shape.shape-index c.args.out.now.items c.loop-shape.out.items
    (omega (arith, c.loop-shape-test.false)) c.loop-shape.invariant
