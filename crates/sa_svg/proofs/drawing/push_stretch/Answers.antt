use Rattle.sa_svg.specs.Drawing.{piece_text}
use Rattle.sa_shapes.proofs.Ranges.{one_more}
use Rattle.sa_svg.proofs.drawing.push_stretch.Goals as goal

pub loop-k-preserved : goal.loop-k-preserved
loop-k-preserved c = one_more (piece_text c.args.layout c.args.stretch.now) c.loop-k.k _ _ _ c.loop-k.invariant c.in_ok-push_nth_piece.ensures
