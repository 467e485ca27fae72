use Rattle.std.proofs.Common.{◌≡◌, [], replicate}
use Rattle.sa_check_lives.proofs.shelves.Shelves.new.Given as goal

abbrev pub invariant-loop : goal.invariant-loop
invariant-loop l = l.shelves.items ≡ replicate l.counter []
