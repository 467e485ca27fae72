use Rattle.sa_svg.specs.Head.{space_entry}
use Rattle.sa_shapes.proofs.Ranges.{one_more}
use Rattle.sa_svg.proofs.head.push_spaces_legend.Goals as goal

pub loop-s-preserved : goal.loop-s-preserved
loop-s-preserved c = one_more space_entry c.loop-s.s _ _ _ c.loop-s.invariant c.in_ok-push_space_entry.ensures
