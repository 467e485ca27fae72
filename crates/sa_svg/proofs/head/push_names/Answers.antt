use Rattle.sa_svg.specs.Head.{band_names}
use Rattle.sa_shapes.proofs.Ranges.{one_more}
use Rattle.sa_svg.proofs.Appends.{and-then}
use Rattle.sa_svg.proofs.head.push_names.Goals as goal

pub loop-band-preserved : goal.loop-band-preserved
loop-band-preserved c = one_more (band_names c.args.layout) c.loop-band.band _ _ _ c.loop-band.invariant (and-then _ _ _ _ _ c.in_ok-push_space_names.ensures c.in_ok-push_lane_names.ensures)
