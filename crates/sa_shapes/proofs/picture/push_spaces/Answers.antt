use Rattle.std.proofs.Common.{refl}
use Rattle.sa_shapes.specs.Picture.{space_shapes}
use Rattle.sa_shapes.proofs.Ranges.{pair_more}
use Rattle.sa_shapes.proofs.picture.push_spaces.Goals as goal

pub loop-s-preserved : goal.loop-s-preserved
loop-s-preserved c =
    pair_more (space_shapes c.args.window c.args.items.now) c.loop-s.s _ _ _ _ _ _ c.loop-s.invariant
    c.in_ok-push_stretches.ensures c.in_ok-push_stretches-2.ensures refl
