use Rattle.std.proofs.Common.{◌≡◌, replicate}
use Rattle.sa_vp_model.specs.Board.{first_ready}
use Rattle.sa_vp.proofs.start.opening_ready.Given as goal

abbrev pub invariant-loop-row : goal.invariant-loop-row
invariant-loop-row l = l.rows.items ≡ replicate l.row (first_ready l.lists)
