use Rattle.std.proofs.Common.{◌≡◌, [], replicate}
use Rattle.sa_check_lives.proofs.lists.no_rows.Given as goal

abbrev pub invariant-loop : goal.invariant-loop
invariant-loop g l = l.rows.items ≡ replicate l.counter []
