use Rattle.std.proofs.Common.{◌≡◌, replicate}
use Rattle.sa_vp_model.specs.Board.{empty}
use Rattle.sa_vp.proofs.start.opening_work.Given as goal

abbrev pub invariant-loop-row : goal.invariant-loop-row
invariant-loop-row l = l.rows.items ≡ replicate l.row (empty l.lists)
