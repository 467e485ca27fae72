use Rattle.std.proofs.Common.{refl}
use Rattle.sa_shapes.specs.Picture.{lane_shapes}
use Rattle.sa_shapes.proofs.Ranges.{pair_more}
use Rattle.sa_shapes.proofs.picture.push_lanes.Goals as goal

pub loop-p-preserved : goal.loop-p-preserved
loop-p-preserved c =
    pair_more (lane_shapes c.args.window c.args.items.now) c.loop-p.p _ _ _ _ _ _ c.loop-p.invariant
    c.in_ok-push_stretches.ensures c.in_ok-push_marks.ensures refl
