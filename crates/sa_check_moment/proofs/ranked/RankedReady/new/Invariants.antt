use Rattle.std.proofs.Common.{◌≡◌, replicate}
use Rattle.sa_check_moment.specs.Ranked.{opening_row}
use Rattle.sa_check_moment.proofs.ranked.RankedReady.new.Given as goal

abbrev pub invariant-loop : goal.invariant-loop
invariant-loop l = l.rows.items ≡ replicate l.counter opening_row
