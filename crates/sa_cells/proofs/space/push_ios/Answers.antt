use Rattle.std.proofs.Common.{◌++◌, ap, ◌∙◌}
use Rattle.sa_shapes.proofs.Ranges.{one_more}
use Rattle.sa_check_moment.specs.Seen.{seen}
use Rattle.sa_cells.specs.Space.{act_of_io_if, io_act}
use Rattle.sa_cells.proofs.space.push_ios.Goals as goal

pub loop-k-preserved : goal.loop-k-preserved
loop-k-preserved c =
    one_more (io_act (seen c.args.moment.now).readings) c.loop-k.k _ _ _ c.loop-k.invariant
    (c.in_ok-push_io.ensures ∙ ap (λ kind. c.loop-k.acts.items ++ act_of_io_if kind) c.io_kind.ensures)
